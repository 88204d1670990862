use Rattle.lw_tree.specs.declared.node.Reference.{Reference}
use Rattle.lw_build.specs.Standing.{IsChangedName}
use Rattle.lw_build.proofs.Sets.{HoldUpTo}
use Rattle.lw_build.proofs.standing.Standing.is_looked_for.Given as goal

abbrev pub invariant-loop-reference : goal.invariant-loop-reference
invariant-loop-reference l = HoldUpTo (λ (x : Reference). ¬ IsChangedName l.self x.name) l.refs l.reference-index
