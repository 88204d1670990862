-- A value that is assigned, from its property's bracket to its end.
use Rattle.std.proofs.Common.{◌≡◌, ℕ, false, List, [], ◌∷◌, ◌++◌, Option, Some, None, map, length, drop, slice_get, Contains, refl, sym, subst, ◌∙◌}
use Rattle.lw_base.specs.declared.token.Span.{Span}
use Rattle.lw_base.specs.declared.token.Token.{Token}
use Rattle.lw_grammar.specs.declared.grammar.Grammar.{Grammar}
use Rattle.lw_grammar.specs.declared.rule.Op.{Op}
use Rattle.lw_grammar.specs.declared.rule.Rule.{Rule}
use Rattle.lw_grammar.specs.declared.rule.Value0.{Value0, out-Value0}
use Rattle.lw_grammar.specs.declared.rule.Value0.TheOpen as value
use Rattle.lw_grammar.specs.Leaves.{Assign, ValueLeaf, Calls, Cross, value_leaves}
use Rattle.lw_grammar.specs.Named.{IsRule}
use Rattle.lw_grammar.specs.Nodes.{MakesNodes}
use Rattle.lw_grammar.specs.Reached.{ValueCalls}
use Rattle.lw_grammar.specs.Reached as reached
use Rattle.lw_grammar.proofs.LeafLemmas.{values_by}
use Rattle.lw_grammar.specs.Marks.{Mark, Open, Shut, Put, End}
use Rattle.lw_faults.specs.Misplaced as fills
use Rattle.lw_faults.specs.Steps.{Step, step}
use Rattle.lw_reading.specs.Grown.{Grown}
use Rattle.lw_reading.specs.Numbers.{IsNumberOfType}
use Rattle.lw_reading.specs.Brackets.{Bracket, InNode, InValue, grown, in_value}
use Rattle.lw_reading.specs.Follows as f
use Rattle.lw_reading.specs.Growing.{ReadMarks}
use Rattle.lw_reading.proofs.GoesOn.{CanClose, HoldsNode, GoesOn, AllTokens, tokens_alone}
use Rattle.lw_reading.proofs.GoesOn as on
use Rattle.lw_reading.proofs.Listed.{alone, in_flat, mapped}
use Rattle.lw_reading.proofs.Meant.{IsReadAs, puts, closes_value}
use Rattle.lw_reading.proofs.Numbered.{assigned_number}
use Rattle.lw_reading.proofs.Rootable.{IsRootable}
use Rattle.lw_reading.proofs.Climbs.{Reaches, there, stands_in, fills_last, Climbs, read_before, join_last}
use Rattle.lw_reading.proofs.Nodes.{value_holds, opened, shut}

module _ (g : Grammar) where
  -- the types that the value's cross-references want have numbers, and it is read by no fragment
  pub record IsFit (v : Value0) : Type 0 where
    pub wanted : (wanted : List ℕ) (by : Option (List ℕ)) (s : Span) → Contains (value_leaves v) (Cross wanted by s) → (n : ℕ) × IsNumberOfType g wanted n
    pub whole : (name : List ℕ) (r : ℕ) (called : Rule) → ValueCalls g v name → IsRule g name r called → called.is_fragment ≡ false

  pub fit_at : IsRootable g → {rule inside : Rule} {before : List Step} {p : List ℕ} {op : Op} {v : Value0} {s : Span} →
      Reaches g rule before inside (Assign p op v s) → IsFit v
  fit_at root {inside} {p} {op} {v} {s} reach = record {
    wanted = λ wanted by t is. root.wanted inside p op v s wanted by t (there g reach) (stands_in g reach) is;
    whole = λ name r called calls is. root.whole inside p op v s name r called (there g reach) (stands_in g reach) calls is;
  }

  wider : {v w : Value0} {name : List ℕ} → ((l : ValueLeaf) → Contains (value_leaves w) l → Contains (value_leaves v) l) → ValueCalls g w name → ValueCalls g v name
  wider {name} has (reached.calls s is) = reached.calls s (has (Calls name s) is)
  wider {name} has (reached.crosses wanted s is) = reached.crosses wanted s (has (Cross wanted (Some name) s) is)
  wider has (reached.crosses_by_name wanted s is names) = reached.crosses_by_name wanted s (has (Cross wanted None s) is) names

  in_choice : (v : Value0) (vs : List Value0) (s : Span) (w : Value0) → out-Value0 v ≡ value.Choice vs s → Contains vs w → (l : ValueLeaf) →
      Contains (value_leaves w) l → Contains (value_leaves v) l
  in_choice v vs s w is has l within =
      subst (λ ls. Contains ls l) (sym (values_by v (value.Choice vs s) is))
      (in_flat (λ ls. ls) (map value_leaves vs) (value_leaves w) l (mapped value_leaves vs w has) within)

  pub fit_part : {v : Value0} {vs : List Value0} {s : Span} {w : Value0} → out-Value0 v ≡ value.Choice vs s → Contains vs w → IsFit v → IsFit w
  fit_part {v} {vs} {s} {w} is has fit = record {
    wanted = λ wanted by t within. fit.wanted wanted by t (in_choice v vs s w is has (Cross wanted by t) within);
    whole = λ name r called calls named. fit.whole name r called (wider (in_choice v vs s w is has) calls) named;
  }

  -- the leaf of a value that is a call or a cross-reference
  pub calls_here : {v : Value0} {name : List ℕ} {s : Span} → out-Value0 v ≡ value.Call name s → ValueCalls g v name
  calls_here {v} {name} {s} is = reached.calls s (subst (λ ls. Contains ls (Calls name s)) (sym (values_by v (value.Call name s) is)) (alone (Calls name s)))

  pub crosses_here : (v : Value0) {wanted : List ℕ} {by : Option (List ℕ)} {s : Span} → out-Value0 v ≡ value.Cross wanted by s →
      Contains (value_leaves v) (Cross wanted by s)
  crosses_here v {wanted} {by} {s} is =
      subst (λ ls. Contains ls (Cross wanted by s)) (sym (values_by v (value.Cross wanted by s) is)) (alone (Cross wanted by s))

  module _ (text : List ℕ) where
    -- marks that are read inside a value
    abbrev pub ValueGoes : List Mark → Type 0
    ValueGoes m =
        (ts us : List Token) (bs : List Bracket) (p : ℕ) (op : Op) (c : Value0) (at : ℕ) → ReadMarks us m →
        ((node : Option Grown) → CanClose g text (InValue p op c at node ∷ bs)) →
        (node : Option Grown) × GoesOn g text ts (InValue p op c at None ∷ bs) m us (InValue p op c at node ∷ bs)

    pub token_goes : {m : List Mark} → AllTokens g text m → ValueGoes m
    token_goes all ts us bs p op c at reads closes = (None, tokens_alone g text all ts us reads)

    pub node_goes : IsRootable g → (r : ℕ) (rule : Rule) (done : List Step) {m : List Mark} → slice_get g.rules r ≡ Some rule → rule.is_fragment ≡ false → MakesNodes g rule →
        Climbs g text [] done m → ValueGoes (Open r ∷ m ++ Shut ∷ [])
    node_goes root r rule done there whole makes climbs ts us bs p op c at reads closes =
        let o = opened g text root r rule done there whole makes climbs ts us (InValue p op c at None ∷ bs) reads (value_holds g text closes) in
        let x = grown (ts ++ us) o.type (length ts) o.held in
        (Some x, shut g text o in_value (closes (Some x)))

    -- a value that was read, and its marks
    pub record ReadsValue (c : Value0) (m : List Mark) : Type 0 where
      pub read : IsReadAs g text c
      pub goes : ValueGoes m

    pub put_climbs : {rule inside : Rule} {p : List ℕ} {op : Op} {v c : Value0} {s : Span} {m : List Mark} (before : List Step) →
        Reaches g rule before inside (Assign p op v s) → ReadsValue c m → Climbs g text before (step inside (Assign p op v s) ∷ []) (Put p op c ∷ m ++ End ∷ [])
    put_climbs {inside} {p} {op} {v} {c} {s} {m} before reach value ts us bs type from held reads holds empty =
        let (n, number) = assigned_number g inside p op v s (there g reach) (stands_in g reach) in
        let closes = closes_value g text value.read holds n op (length ts) type from held in
        let (node, goes) = value.goes ts us (InNode type from held ∷ bs) n op c (length ts) (reads ∙ read_before m End refl) closes in
        let (after, put) = puts g text value.read op (drop (length ts) (ts ++ us)) node held n in
        record {
          type_ = type;
          held_ = after;
          goes = on.next (f.puts number) (closes None) (join_last g text goes (f.ends put) (holds type from after));
          empty = λ none. absurd (none (fills_last g before (step inside (Assign p op v s)) fills.assigns));
        }
