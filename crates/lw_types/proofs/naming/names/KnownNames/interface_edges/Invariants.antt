use Rattle.std.proofs.Common.{[]}
use Rattle.lw_faults.specs.Finding.{Finds, AtSomeBelow}
use Rattle.lw_types.specs.Rounds.{Extends}
use Rattle.lw_types.proofs.naming.names.KnownNames.interface_edges.Given as goal

abbrev pub invariant-loop-i : goal.invariant-loop-i
invariant-loop-i l = Finds (AtSomeBelow (Extends l.self.g.now) l.i l.self.g.now.interfaces) [] l.edges.items
