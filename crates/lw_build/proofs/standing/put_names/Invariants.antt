use Rattle.lw_index.specs.declared.parts.Export.{Export}
use Rattle.lw_build.specs.Standing.{IsName, StayNames}
use Rattle.lw_build.proofs.Sets.{HoldUpTo}
use Rattle.lw_build.proofs.standing.put_names.Given as goal

-- the names of the exports so far
abbrev pub invariant-loop-export : goal.invariant-loop-export
invariant-loop-export l = StayNames l.initial.names.keys l.names.keys × HoldUpTo (λ (e : Export). IsName l.names.keys e.name) l.exports l.export-index
