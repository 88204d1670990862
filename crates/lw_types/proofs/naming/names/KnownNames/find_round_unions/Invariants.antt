use Rattle.lw_faults.specs.Finding.{Finds, AtSomeBelow}
use Rattle.lw_types.specs.Rounds.{TellsUnion}
use Rattle.lw_types.proofs.naming.names.KnownNames.find_round_unions.Given as goal

abbrev pub invariant-loop-u : goal.invariant-loop-u
invariant-loop-u l = Finds (AtSomeBelow (TellsUnion l.self.g.now l.round) l.u l.self.g.now.unions) l.fn.found l.found
