-- The faults of the order of actions and calls, from what is told at each leaf.
use Rattle.std.proofs.Common.{◌≡◌, ℕ, List, ◌⊎◌, inl, inr, Some, true, length, slice_get, refl, sym, subst}
use Rattle.std.proofs.lemmas.Option.{slice_get_within}
use Rattle.lw_base.specs.declared.token.Span.{Span}
use Rattle.lw_grammar.specs.declared.fault.GrammarFault.{GrammarFault}
use Rattle.lw_grammar.specs.declared.grammar.Grammar.{Grammar}
use Rattle.lw_grammar.specs.declared.rule.Rule.{Rule}
use Rattle.lw_grammar.specs.Leaves as leaf
use Rattle.lw_grammar.specs.Leaves.{Leaf, leaves}
use Rattle.lw_faults.specs.Faults.{fault}
use Rattle.lw_faults.specs.Steps.{step}
use Rattle.lw_faults.specs.Misplaced.{MisplacedAction, simple, current, MisplacedCall, misplaced_call}
use Rattle.lw_faults.specs.Finding.{Finds, IsFaultOf}
use Rattle.lw_faults.proofs.Joining.{Finds-iff}
use Rattle.lw_flow.specs.Recorded.{AreWaysOf, Somewhere}
use Rattle.lw_flow.specs.declared.before.Before.{Before}
use Rattle.lw_gramcheck.specs.Found.{IsToldAt, too_late, too_early, called_late, ByOneOf, ToldByRule}

module _ (g : Grammar) (rows : List (List Before)) (ways : AreWaysOf g rows) where
  abbrev OrderFault : GrammarFault → Type 0
  OrderFault f = IsFaultOf 11 (MisplacedAction g) f ⊎ IsFaultOf 12 (MisplacedCall g) f

  module _ (w i : ℕ) (rule : Rule) (row : List Before) (entry : Before) (at : slice_get g.rules w ≡ Some rule) (in_rows : slice_get rows w ≡ Some row)
      (in_row : slice_get row i ≡ Some entry) where
    here : (passes : Before → Type 0) (l : Leaf) → slice_get (leaves rule.body) i ≡ Some l → passes entry → Somewhere g rows passes (step rule l)
    here passes l there does = record {
      rule_number = w;
      leaf_number = i;
      row = row;
      entry = entry;
      written = at;
      leaf = there;
      in_rows = in_rows;
      in_row = in_row;
      does = does;
    }

    told_here : (l : Leaf) (f : GrammarFault) → slice_get (leaves rule.body) i ≡ Some l → IsToldAt g rule entry l f → OrderFault f
    told_here _ _ there (too_late a none behind) =
        let is = (ways.behind (step rule (leaf.Act a))).0 (here (λ x. x.behind ≡ true) (leaf.Act a) there behind) in
        inl (refl, simple is.0 rule is.1 a is.2 none is.3)
    told_here _ _ there (too_early a put some first) =
        let is = (ways.first (step rule (leaf.Act a))).0 (here (λ x. x.first ≡ true) (leaf.Act a) there first) in
        inl (refl, current is.0 rule a put is.1 some)
    told_here _ _ there (called_late name s called calls filled) =
        let is = (ways.filled (step rule (leaf.Call name s))).0 (here (λ x. x.filled ≡ true) (leaf.Call name s) there filled) in
        inr (refl, misplaced_call is.0 rule called is.1 name s is.2 calls is.3)

  told_to : (f : GrammarFault) → ByOneOf (ToldByRule g rows) (length g.rules) f → OrderFault f
  told_to f (w, below, (rule, row, at, in_rows, (i, inside, (l, entry, there, in_row, is)))) = told_here w i rule row entry at in_rows in_row l f there is

  by_place : (f : GrammarFault) (written : Rule) (l : Leaf) (passes : Before → Type 0) → Somewhere g rows passes (step written l) →
      ((entry : Before) → passes entry → IsToldAt g written entry l f) → ByOneOf (ToldByRule g rows) (length g.rules) f
  by_place f written l passes some is = (
    some.rule_number,
    slice_get_within g.rules some.rule_number written some.written,
    (
      written,
      some.row,
      some.written,
      some.in_rows,
      (some.leaf_number, slice_get_within (leaves written.body) some.leaf_number l some.leaf, (l, some.entry, some.leaf, some.in_row, is some.entry some.does)),
    ),
  )

  action_from : (file : ℕ) (s : Span) (name : List ℕ) → MisplacedAction g file s name → ByOneOf (ToldByRule g rows) (length g.rules) (fault 11 file s name)
  action_from _ _ _ (simple rule written before a behind none some) =
      by_place (fault 11 written.file a.span written.name) written (leaf.Act a) (λ x. x.behind ≡ true) ((ways.behind (step written (leaf.Act a))).1 (rule, before, behind, some))
      (λ entry is. too_late a none is)
  action_from _ _ _ (current rule written a put behind some) =
      by_place (fault 11 written.file a.span written.name) written (leaf.Act a) (λ x. x.first ≡ true) ((ways.first (step written (leaf.Act a))).1 (rule, behind))
      (λ entry is. too_early a put some is)

  call_from : (file : ℕ) (s : Span) (name : List ℕ) → MisplacedCall g file s name → ByOneOf (ToldByRule g rows) (length g.rules) (fault 12 file s name)
  call_from _ _ _ (misplaced_call rule written called before name s behind calls some) =
      by_place (fault 12 written.file s name) written (leaf.Call name s) (λ x. x.filled ≡ true) ((ways.filled (step written (leaf.Call name s))).1 (rule, before, behind, some))
      (λ entry is. called_late name s called calls is)

  told_from : (f : GrammarFault) → OrderFault f → ByOneOf (ToldByRule g rows) (length g.rules) f
  told_from f (inl (number, is)) = let P : ℕ → Type 0 = λ n. ByOneOf (ToldByRule g rows) (length g.rules) (fault n f.file f.span f.name) in subst P (sym number) (action_from f.file f.span f.name is)
  told_from f (inr (number, is)) = let P : ℕ → Type 0 = λ n. ByOneOf (ToldByRule g rows) (length g.rules) (fault n f.file f.span f.name) in subst P (sym number) (call_from f.file f.span f.name is)

  pub found_order : {a b : List GrammarFault} → Finds (ByOneOf (ToldByRule g rows) (length g.rules)) a b → Finds OrderFault a b
  found_order finds = Finds-iff (λ f. (told_to f, told_from f)) finds
