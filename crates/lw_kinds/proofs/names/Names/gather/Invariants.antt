use Rattle.lw_kinds.specs.Gathering.{IsGatheredBelow}
use Rattle.lw_kinds.proofs.names.Names.gather.Given as goal

abbrev pub invariant-loop-number : goal.invariant-loop-number
invariant-loop-number l = IsGatheredBelow l.self.g.now l.number l.gathered
