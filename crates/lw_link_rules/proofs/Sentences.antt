-- In the marks of a sentence of a grammar without faults each value reads something: data type rules read a token each time.
use Rattle.std.proofs.Common.{◌≡◌, ℕ, false, List, Some, None, inl, inr, map, slice_get, Contains, refl, sym, subst, ◌∙◌, true≢false}
use Rattle.std.specs.List.{flat_map}
use Rattle.std.proofs.lemmas.List.Elements.{Contains-append_left, Contains-append_right}
use Rattle.std.proofs.lemmas.Option.{same_Some}
use Rattle.lw_base.specs.declared.token.Span.{Span}
use Rattle.lw_grammar.specs.declared.fault.GrammarFault.{GrammarFault}
use Rattle.lw_grammar.specs.declared.grammar.Grammar.{Grammar}
use Rattle.lw_grammar.specs.declared.rule.Element.{Element, out-Element}
use Rattle.lw_grammar.specs.declared.rule.Element.TheFolds.{map-Element}
use Rattle.lw_grammar.specs.declared.rule.Element.TheOpen.{Element-F}
use Rattle.lw_grammar.specs.declared.rule.Op.{Op}
use Rattle.lw_grammar.specs.declared.rule.Rule.{Rule}
use Rattle.lw_grammar.specs.declared.rule.Value0.{Value0, out-Value0}
use Rattle.lw_grammar.specs.declared.rule.Value0.TheOpen as value
use Rattle.lw_grammar.specs.declared.rule.Value0.TheOpen.{Value0-F}
use Rattle.lw_grammar.specs.Kinds.{Kinds}
use Rattle.lw_grammar.specs.Leaves.{Leaf, Call, Assign, leaves, layer_leaves, ValueLeaf, Calls, Cross, value_leaves}
use Rattle.lw_grammar.specs.Named.{IsRule}
use Rattle.lw_grammar.specs.Nodes.{IsDataType}
use Rattle.lw_grammar.specs.Reached.{IsReached, ValueCalls}
use Rattle.lw_grammar.specs.Reached as reached
use Rattle.lw_grammar.proofs.LeafLemmas.{leaves_by, values_by}
use Rattle.lw_faults.specs.Derivations.{IsEntryRule, IsReachedRule, reads_nothing}
use Rattle.lw_faults.specs.Faults.{IsTypeFault, IsCheckFault, HasNoCircle, fault}
use Rattle.lw_faults.specs.Faults as list
use Rattle.lw_faults.specs.Reads.{MayRead}
use Rattle.lw_scoping.proofs.Places.{among}
use Rattle.lw_reading.proofs.Listed.{alone, in_flat, mapped}
use Rattle.lw_reading.proofs.Rootable.{IsRootable}
use Rattle.lw_reading.proofs.Valued.{calls_here, crosses_here}
use Rattle.lw_grammar.specs.Marks.{Mark}
use Rattle.lw_grammar.specs.Sentences.{IsSentence}
use Rattle.lw_grammar.specs.Yields.{Yields, Gives, YieldsAll, Repeats, RuleGives, ValueYields, ValueGives}
use Rattle.lw_grammar.specs.Yields as y
use Rattle.lw_link_rules.proofs.Filled.{AreFilled, ReadsAny, ReadsSome, act_reads, all_filled, in_turn, node_reads, token_reads, value_reads}
use Rattle.lw_link_rules.proofs.Silent.{silent_reads}

-- the leaves of a row
abbrev RowLeaves : List Element → List Leaf
RowLeaves es = flat_map (λ ls. ls) (map leaves es)

module _ (g : Grammar) where
  abbrev AreIn : Rule → List Leaf → Type 0
  AreIn rule ls = (l : Leaf) → Contains ls l → Contains (leaves rule.body) l

  -- a name that is called there means a rule that can be reached
  abbrev Reaches : List ℕ → Type 0
  Reaches name = (q : ℕ) (called : Rule) → IsRule g name q called → IsReached g q

  -- where a value is assigned, the rules that it is read by can be reached, and are no fragments
  abbrev IsSite : Value0 → Type 0
  IsSite v = (name : List ℕ) → ValueCalls g v name → (q : ℕ) (called : Rule) → IsRule g name q called → IsReached g q × (called.is_fragment ≡ false)

  wider : {v w : Value0} {name : List ℕ} → ((l : ValueLeaf) → Contains (value_leaves w) l → Contains (value_leaves v) l) →
      ValueCalls g w name → ValueCalls g v name
  wider {name} has (reached.calls s is) = reached.calls s (has (Calls name s) is)
  wider {name} has (reached.crosses wanted s is) = reached.crosses wanted s (has (Cross wanted (Some name) s) is)
  wider has (reached.crosses_by_name wanted s is names) = reached.crosses_by_name wanted s (has (Cross wanted None s) is) names

  in_choice : (v : Value0) (vs : List Value0) (s : Span) (w : Value0) → out-Value0 v ≡ value.Choice vs s → Contains vs w → (l : ValueLeaf) →
      Contains (value_leaves w) l → Contains (value_leaves v) l
  in_choice v vs s w is has l within =
      subst (λ ls. Contains ls l) (sym (values_by v (value.Choice vs s) is))
      (in_flat (λ ls. ls) (map value_leaves vs) (value_leaves w) l (mapped value_leaves vs w has) within)

  -- a data type rule that can be reached is not the entry, and reads a token
  module _ (root : IsRootable g) (no_fault : (f : GrammarFault) → ¬ IsCheckFault g f) where
    no_circle : HasNoCircle g
    no_circle file s name is = no_fault (fault 20 file s name) (list.circular_call is)

    no_entry : (q : ℕ) (rule : Rule) → slice_get g.rules q ≡ Some rule → IsDataType g rule → ¬ IsEntryRule g q
    no_entry q rule at data_type (other, entry) =
        (root.entry q other entry).1 (subst (IsDataType g) (same_Some rule other (sym at ∙ entry.there)) data_type)

    never_silent : (q : ℕ) (rule : Rule) → IsReachedRule g q rule → IsDataType g rule → ¬ MayRead g rule.body 0
    never_silent q rule there data_type may =
        no_fault (fault 8 rule.file rule.span rule.name)
        (list.reads_nothing no_circle (reads_nothing q rule there data_type.0 (no_entry q rule there.1 data_type) may))

    site : (r : ℕ) (rule : Rule) → IsReachedRule g r rule → (p : List ℕ) (op : Op) (v : Value0) (s : Span) →
        Contains (leaves rule.body) (Assign p op v s) → IsSite v
    site r rule there p op v s written name by q called is = (
      reached.called rule called name there.0 there.1 (reached.assigns p op v s written by) is,
      root.whole rule p op v s name q called (among g.rules r rule there.1) written by is,
    )

    module _ (kinds : Kinds) where
      mutual
        element_reads : {e : Element} {m : List Mark} → Yields g kinds e m → (r : ℕ) (rule : Rule) → IsReachedRule g r rule →
            AreIn rule (leaves e) → ReadsAny m
        element_reads {e} (y.yields p) r rule there within =
            layer_reads p r rule there (λ l has. within l (subst (λ ls. Contains ls l) (sym (leaves_by e (out-Element e) refl)) has))

        layer_reads : {f : Element-F Element} {m : List Mark} → Gives g kinds f m → (r : ℕ) (rule : Rule) → IsReachedRule g r rule →
            AreIn rule (layer_leaves (map-Element Element (List Leaf) leaves f)) → ReadsAny m
        layer_reads (y.keyword {k} is) r rule there within = inr (token_reads k)
        layer_reads (y.called {name} {s} p) r rule there within =
            call_reads p
            (λ q called is. reached.called rule called name there.0 there.1 (reached.calls s (within (Call name s) (alone (Call name s)))) is)
        layer_reads (y.assigned {p = property} {op} {v} {c} {s} {m} p) r rule there within =
            let written = within (Assign property op v s) (alone (Assign property op v s)) in
            inr (value_reads property op c m (assigned_reads p (site r rule there property op v s written)))
        layer_reads (y.acted {a}) r rule there within = inr (act_reads a)
        layer_reads (y.grouped p) r rule there within = row_reads p r rule there within
        layer_reads (y.chosen {es} {e} has p) r rule there within =
            element_reads p r rule there (λ l inside. within l (in_flat (λ ls. ls) (map leaves es) (leaves e) l (mapped leaves es e has) inside))
        layer_reads y.skipped r rule there within = inl refl
        layer_reads (y.taken p) r rule there within = element_reads p r rule there within
        layer_reads (y.repeated p) r rule there within = again_reads p r rule there within
        layer_reads (y.repeated_once {m} {n} p q) r rule there within =
            in_turn m n (element_reads p r rule there within) (again_reads q r rule there within)

        row_reads : {es : List Element} {m : List Mark} → YieldsAll g kinds es m → (r : ℕ) (rule : Rule) → IsReachedRule g r rule →
            AreIn rule (RowLeaves es) → ReadsAny m
        row_reads y.none r rule there within = inl refl
        row_reads (y.more {e} {es} {m} {n} p q) r rule there within =
            in_turn m n (element_reads p r rule there (λ l has. within l (Contains-append_left (leaves e) (RowLeaves es) l has)))
            (row_reads q r rule there (λ l has. within l (Contains-append_right (leaves e) (RowLeaves es) l has)))

        again_reads : {e : Element} {m : List Mark} → Repeats g kinds e m → (r : ℕ) (rule : Rule) → IsReachedRule g r rule →
            AreIn rule (leaves e) → ReadsAny m
        again_reads y.stop r rule there within = inl refl
        again_reads (y.again {m} {n} p q) r rule there within =
            in_turn m n (element_reads p r rule there within) (again_reads q r rule there within)

        call_reads : {name : List ℕ} {m : List Mark} → y.Calls g kinds name m → Reaches name → ReadsAny m
        call_reads (y.terminal {k} is) reaches = inr (token_reads k)
        call_reads (y.rule_ q called is p) reaches = rule_reads p (reaches q called is, is.first.there)

        rule_reads : {q : ℕ} {called : Rule} {m : List Mark} → RuleGives g kinds q called m → IsReachedRule g q called → ReadsAny m
        rule_reads {q} {called} (y.fragment put p) there = element_reads p q called there (λ l has. has)
        rule_reads {q} {called} (y.data_type whole none p) there = element_reads p q called there (λ l has. has)
        rule_reads {q} {called} (y.node {m} whole makes p) there = inr (node_reads q m (element_reads p q called there (λ l has. has)))

        assigned_reads : {v c : Value0} {m : List Mark} → ValueYields g kinds v c m → IsSite v → ReadsSome m
        assigned_reads (y.reads p) at = form_reads p refl at

        form_reads : {v c : Value0} {f : Value0-F Value0} {m : List Mark} → ValueGives g kinds v f c m → out-Value0 v ≡ f → IsSite v →
            ReadsSome m
        form_reads (y.keyword_value {k} kind) is at = token_reads k
        form_reads (y.call_value {name} p) is at = value_call_reads p (at name (calls_here g is))
        form_reads (y.cross_value {v} {wanted} {name} {s} p) is at = value_call_reads p (at name (reached.crosses wanted s (crosses_here g v is)))
        form_reads (y.cross_by_name {v} {wanted} {s} name names p) is at =
            value_call_reads p (at name (reached.crosses_by_name wanted s (crosses_here g v is) names))
        form_reads {v} (y.chosen_value {vs} {s} {w} has p) is at = assigned_reads p (λ name calls. at name (wider (in_choice v vs s w is has) calls))

        value_call_reads : {name : List ℕ} {m : List Mark} → y.Calls g kinds name m →
            ((q : ℕ) (called : Rule) → IsRule g name q called → IsReached g q × (called.is_fragment ≡ false)) → ReadsSome m
        value_call_reads (y.terminal {k} is) at = token_reads k
        value_call_reads (y.rule_ q called is p) at = value_rule_reads p ((at q called is).0, is.first.there) (at q called is).1

        value_rule_reads : {q : ℕ} {called : Rule} {m : List Mark} → RuleGives g kinds q called m → IsReachedRule g q called →
            called.is_fragment ≡ false → ReadsSome m
        value_rule_reads (y.fragment put p) there whole = absurd (true≢false (sym put ∙ whole))
        value_rule_reads {q} {called} {m} (y.data_type put none p) there whole = by (element_reads p q called there (λ l has. has))
          where
            by : ReadsAny m → ReadsSome m
            by (inl silent) = absurd (never_silent q called there (whole, none) (silent_reads g kinds p silent))
            by (inr some) = some
        value_rule_reads {q} {called} (y.node {m} put makes p) there whole = node_reads q m (element_reads p q called there (λ l has. has))

      pub sentence_filled : (m : List Mark) → IsSentence g kinds m → AreFilled false m
      sentence_filled m is = all_filled m (rule_reads is.gives (reached.entry is.rule is.entry, is.entry.there))
