use Rattle.std.proofs.Common.{◌≡◌, ℕ, ◌<◌, Some, slice_get}
use Rattle.lw_grammar.specs.declared.rule.Rule.{Rule}
use Rattle.lw_gramcheck.specs.Parts.{IsMarked}
use Rattle.lw_gramcheck.proofs.parts.entries.entry.Given as goal

abbrev pub invariant-loop-r : goal.invariant-loop-r
invariant-loop-r l = (j : ℕ) (rule : Rule) → j < l.r → slice_get l.g.rules j ≡ Some rule → ¬ IsMarked rule
