use Rattle.std.proofs.Common.{[]}
use Rattle.lw_faults.specs.Finding.{Finds, AtSomeBelow}
use Rattle.lw_types.specs.Rounds.{HasMembers}
use Rattle.lw_types.proofs.naming.names.KnownNames.union_edges.Given as goal

abbrev pub invariant-loop-u : goal.invariant-loop-u
invariant-loop-u l = Finds (AtSomeBelow (HasMembers l.self.g.now) l.u l.self.g.now.unions) [] l.edges.items
