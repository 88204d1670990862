use Rattle.std.proofs.Common.{length, ap, arith}
use Rattle.lw_faults.proofs.Joining.{Finds-all}
use Rattle.lw_types.specs.Rounds.{ByMember}
use Rattle.lw_types.proofs.Gathering.{Finds-next}
use Rattle.lw_types.proofs.naming.names.KnownNames.put_members.Goals as goal

pub loop-member-preserved : goal.loop-member-preserved
loop-member-preserved c =
    let lent = c.as_slice-member-items in
    Finds-next (ByMember c.args.self.now.g.now c.args.u) lent.result.now c.args.union.now.members c.loop-member.member-index c.member-item.result lent.ensures
    (omega arith) c.member-item.is c.loop-member.invariant c.in_ok-put_member.ensures

pub returns : goal.returns
returns c =
    let lent = c.as_slice-member-items in
    Finds-all (ByMember c.args.self.now.g.now c.args.u) c.args.union.now.members c.loop-member.member-index (omega (arith, ap length lent.ensures))
    c.loop-member.invariant
