use Rattle.std.proofs.Common.{take}
use Rattle.lw_faults.specs.Finding.{Finds, OfSome}
use Rattle.lw_types.specs.Rounds.{TellsOther}
use Rattle.lw_types.proofs.naming.names.KnownNames.find_extending_others.Given as goal

abbrev pub invariant-loop-interface : goal.invariant-loop-interface
invariant-loop-interface l = Finds (OfSome (TellsOther l.self.g.now) (take l.interface-index l.self.g.now.interfaces)) l.fn.found l.found
