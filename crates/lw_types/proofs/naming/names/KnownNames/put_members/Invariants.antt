use Rattle.std.proofs.Common.{take}
use Rattle.lw_faults.specs.Finding.{Finds, OfSome}
use Rattle.lw_types.specs.Rounds.{ByMember}
use Rattle.lw_types.proofs.naming.names.KnownNames.put_members.Given as goal

abbrev pub invariant-loop-member : goal.invariant-loop-member
invariant-loop-member l = Finds (OfSome (ByMember l.self.g.now l.u) (take l.member-index l.union.members)) l.fn.edges.items l.edges.items
