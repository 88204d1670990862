use Rattle.std.proofs.Common.{◌≡◌, ℕ, Bool, false, IsTrue, ◌↔◌}
use Rattle.lw_grammar.specs.declared.rule.Rule.{Rule}
use Rattle.lw_viable.specs.EmptyBy.{IsFlagged}
use Rattle.lw_viable.proofs.BeginsMade.{MadeUpTo}
use Rattle.lw_viable.proofs.begins.rules.opening_rules.Given as goal

abbrev pub invariant-loop-number : goal.invariant-loop-number
invariant-loop-number l =
    MadeUpTo (λ (i : ℕ) (rule : Rule) (b : Bool). IsTrue b ↔ ((rule.is_fragment ≡ false) × IsFlagged l.nodes i)) l.rules l.flags.items l.number
