use Rattle.std.proofs.Common.{take}
use Rattle.lw_faults.specs.Finding.{Finds, OfSome}
use Rattle.lw_types.specs.Rounds.{ToInterface}
use Rattle.lw_types.proofs.naming.names.KnownNames.put_extended.Given as goal

abbrev pub invariant-loop-name : goal.invariant-loop-name
invariant-loop-name l = Finds (OfSome (λ above. ToInterface l.self.g.now l.i above.0) (take l.name-index l.interface.above)) l.fn.edges.items l.edges.items
