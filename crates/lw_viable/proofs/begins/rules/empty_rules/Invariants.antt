use Rattle.std.proofs.Common.{ℕ, List, [], Bool, IsTrue, ◌↔◌}
use Rattle.lw_first.specs.declared.heads.head.Head.{Head}
use Rattle.lw_first.specs.Sets.{IsAmongHeads}
use Rattle.lw_viable.proofs.BeginsMade.{MadeUpTo}
use Rattle.lw_viable.proofs.begins.rules.empty_rules.Given as goal

abbrev pub invariant-loop-heads : goal.invariant-loop-heads
invariant-loop-heads l = MadeUpTo (λ (i : ℕ) (heads : List Head) (b : Bool). IsTrue b ↔ IsAmongHeads heads []) l.sets l.flags.items l.heads-index
