use Rattle.std.proofs.Common.{length, ap, arith}
use Rattle.lw_faults.proofs.Joining.{Finds-at-more, Finds-at-all}
use Rattle.lw_types.specs.Rounds.{TellsUnion}
use Rattle.lw_types.proofs.Membership.{item_at}
use Rattle.lw_types.proofs.naming.names.KnownNames.find_round_unions.Goals as goal

pub loop-u-preserved : goal.loop-u-preserved
loop-u-preserved c =
    let g = c.args.self.now.g.now in
    let lent = c.as_slice-union-items in
    let x = c.union-item.result in
    Finds-at-more (TellsUnion g c.args.round.now) g.unions c.loop-u.u x (item_at lent.result.now g.unions c.loop-u.u x lent.ensures (omega arith) c.union-item.is)
    c.loop-u.invariant c.in_ok-find_round_union.ensures

pub returns : goal.returns
returns c =
    let g = c.args.self.now.g.now in
    Finds-at-all (TellsUnion g c.args.round.now) g.unions c.loop-u.u (omega (arith, ap length c.as_slice-union-items.ensures)) c.loop-u.invariant
