use Rattle.lw_index.specs.declared.parts.Export.{Export}
use Rattle.lw_build.specs.Standing.{IsChangedName}
use Rattle.lw_build.proofs.Sets.{HoldUpTo}
use Rattle.lw_build.proofs.standing.Standing.is_exported.Given as goal

abbrev pub invariant-loop-export : goal.invariant-loop-export
invariant-loop-export l = HoldUpTo (λ (x : Export). ¬ IsChangedName l.self x.name) l.exports l.export-index
