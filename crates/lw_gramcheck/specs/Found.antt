-- What is told at a leaf, by what may come before it, in words of the code.
use Rattle.std.specs.Prelude.{ℕ, ◌≡◌, ◌<◌, List, Some, None, Bool, true, length, slice_get}
use Rattle.lw_base.specs.declared.token.Span.{Span}
use Rattle.lw_grammar.specs.declared.grammar.Grammar.{Grammar}
use Rattle.lw_grammar.specs.declared.fault.GrammarFault.{GrammarFault}
use Rattle.lw_grammar.specs.declared.rule.Action.{Action}
use Rattle.lw_grammar.specs.declared.rule.Rule.{Rule}
use Rattle.lw_grammar.specs.Leaves as leaf
use Rattle.lw_grammar.specs.Leaves.{Leaf, leaves}
use Rattle.lw_faults.specs.Faults.{fault}
use Rattle.lw_faults.specs.Steps.{CallsNode}
use Rattle.lw_flow.specs.declared.before.Before.{Before}

module _ (g : Grammar) (rule : Rule) (entry : Before) where
  pub data IsToldAt : Leaf → GrammarFault → Type 0 where
    too_late : (a : Action) → a.put ≡ None → entry.behind ≡ true → IsToldAt (leaf.Act a) (fault 11 rule.file a.span rule.name)
    too_early : (a : Action) (put : List ℕ × Bool) → a.put ≡ Some put → entry.first ≡ true → IsToldAt (leaf.Act a) (fault 11 rule.file a.span rule.name)
    called_late : (name : List ℕ) (s : Span) (called : Rule) → CallsNode g (leaf.Call name s) called → entry.filled ≡ true →
        IsToldAt (leaf.Call name s) (fault 12 rule.file s name)

-- by one of the first k
abbrev pub ByOneOf : {Y : Type 0} → (ℕ → Y → Type 0) → ℕ → Y → Type 0
ByOneOf has k y = (i : ℕ) × (i < k) × has i y

-- at the leaf of this number
abbrev pub ToldByLeaf : Grammar → Rule → List Leaf → List Before → ℕ → GrammarFault → Type 0
ToldByLeaf g rule ls row i f = (l : Leaf) × (entry : Before) × (slice_get ls i ≡ Some l) × (slice_get row i ≡ Some entry) × IsToldAt g rule entry l f

-- at some leaf of the rule of this number
abbrev pub ToldByRule : Grammar → List (List Before) → ℕ → GrammarFault → Type 0
ToldByRule g rows n f = (rule : Rule) × (row : List Before) × (slice_get g.rules n ≡ Some rule) × (slice_get rows n ≡ Some row)
    × ByOneOf (ToldByLeaf g rule (leaves rule.body) row) (length (leaves rule.body)) f
