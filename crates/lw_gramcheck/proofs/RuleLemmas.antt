-- The leaves of a rule's body, one after the other, and with them the rule.
use Rattle.std.proofs.Common.{◌≡◌, ℕ, ◌+◌, ◌<◌, ◌≤◌, List, [], Some, length, map, slice_get, get_or, sym, ap, ◌∙◌, subst, arith}
use Rattle.std.specs.Option.{option_map}
use Rattle.std.proofs.lemmas.List.{length-map}
use Rattle.std.proofs.lemmas.Option.{same_Some, slice_get-map, slice_get_within, slice_get-get_or}
use Rattle.lw_grammar.specs.declared.fault.GrammarFault.{GrammarFault}
use Rattle.lw_grammar.specs.declared.grammar.Grammar.{Grammar}
use Rattle.lw_grammar.specs.declared.rule.Rule.{Rule}
use Rattle.lw_grammar.specs.Leaves.{Leaf, leaves}
use Rattle.lw_numbers.specs.declared.leaves.body.BodyLeaf.{BodyLeaf}
use Rattle.lw_numbers.specs.Parts.{leaf_of}
use Rattle.lw_faults.specs.Finding.{Finds}
use Rattle.lw_faults.proofs.Joining.{Finds-iff}
use Rattle.lw_flow.specs.declared.before.Before.{Before}
use Rattle.lw_flow.specs.Recorded.{AreWaysOf}
use Rattle.lw_gramcheck.specs.Found.{IsToldAt, ByOneOf, ToldByLeaf, ToldByRule}
use Rattle.lw_gramcheck.proofs.Counting.{one_more, all_of_them}

-- ---- what is read of the list of leaves

module _ (items made : List BodyLeaf) (ls : List Leaf) (same : items ≡ made) (is : map leaf_of made ≡ ls) where
  stand_for : map leaf_of items ≡ ls
  stand_for = ap (map leaf_of) same ∙ is

  pub reads_leaf : (i : ℕ) (x : BodyLeaf) → i < length items → x ≡ get_or items i x → slice_get ls i ≡ Some (leaf_of x)
  reads_leaf i x inside read =
      ap (λ (zs : List Leaf). slice_get zs i) (sym stand_for) ∙ slice_get-map leaf_of items i
      ∙ ap (option_map leaf_of) (slice_get-get_or items i x inside ∙ ap Some (sym read))

  pub as_many : length items ≡ length ls
  as_many = sym (length-map items leaf_of) ∙ ap length stand_for

-- ---- one leaf more

module _ (g : Grammar) (rule : Rule) (ls : List Leaf) (row : List Before) (i : ℕ) (l : Leaf) (entry : Before) (there : slice_get ls i ≡ Some l)
    (in_row : slice_get row i ≡ Some entry) where
  told_there : (f : GrammarFault) → ToldByLeaf g rule ls row i f → IsToldAt g rule entry l f
  told_there f (other, met, at, met_at, is) =
      let same_leaf : other ≡ l = same_Some other l (sym at ∙ there) in
      let same_entry : met ≡ entry = same_Some met entry (sym met_at ∙ in_row) in
      subst (λ (x : Leaf). IsToldAt g rule entry x f) same_leaf (subst (λ (x : Before). IsToldAt g rule x other f) same_entry is)

  pub leaf_more : {a b c : List GrammarFault} → Finds (ByOneOf (ToldByLeaf g rule ls row) i) a b → Finds (IsToldAt g rule entry l) b c →
      Finds (ByOneOf (ToldByLeaf g rule ls row) (i + 1)) a c
  leaf_more before now = one_more (ToldByLeaf g rule ls row) i before (Finds-iff (λ f. (λ is. (l, entry, there, in_row, is), told_there f)) now)

-- ---- all leaves of a rule

module _ (g : Grammar) (rows : List (List Before)) (ways : AreWaysOf g rows) (n : ℕ) (rule : Rule) (at : slice_get g.rules n ≡ Some rule) where
  abbrev the_row : List Before
  the_row = get_or rows n []

  in_rows : slice_get rows n ≡ Some the_row
  in_rows = slice_get-get_or rows n [] (omega (arith, ways.shape.rows_of_rules, slice_get_within g.rules n rule at))

  from_rule : (f : GrammarFault) → ToldByRule g rows n f → ByOneOf (ToldByLeaf g rule (leaves rule.body) the_row) (length (leaves rule.body)) f
  from_rule f (other, met, other_at, met_at, is) =
      let same_rule : other ≡ rule = same_Some other rule (sym other_at ∙ at) in
      let same_row : met ≡ the_row = same_Some met the_row (sym met_at ∙ in_rows) in
      subst (λ (x : Rule). ByOneOf (ToldByLeaf g x (leaves x.body) the_row) (length (leaves x.body)) f) same_rule
      (subst (λ (x : List Before). ByOneOf (ToldByLeaf g other (leaves other.body) x) (length (leaves other.body)) f) same_row is)

  pub all_leaves : {a b : List GrammarFault} (i : ℕ) → length (leaves rule.body) ≤ i →
      ((row : List Before) → slice_get rows n ≡ Some row → Finds (ByOneOf (ToldByLeaf g rule (leaves rule.body) row) i) a b) → Finds (ToldByRule g rows n) a b
  all_leaves i past finds =
      Finds-iff (λ f. (λ is. (rule, the_row, at, in_rows, is), from_rule f))
      (all_of_them (ToldByLeaf g rule (leaves rule.body) the_row) (length (leaves rule.body)) i past
      (λ k f is. slice_get_within (leaves rule.body) k is.0 is.2) (finds the_row in_rows))

-- ---- all rules

pub all_rules : (g : Grammar) (rows : List (List Before)) (rules : List Rule) → rules ≡ g.rules → {a b : List GrammarFault} (n : ℕ) → length rules ≤ n →
    Finds (ByOneOf (ToldByRule g rows) n) a b → Finds (ByOneOf (ToldByRule g rows) (length g.rules)) a b
all_rules g rows rules same n past finds =
    all_of_them (ToldByRule g rows) (length g.rules) n (omega (arith, past, ap length same)) (λ k f is. slice_get_within g.rules k is.0 is.2) finds
