use Rattle.std.proofs.Common.{length, ap, arith}
use Rattle.lw_faults.proofs.Joining.{Finds-at-more, Finds-at-all}
use Rattle.lw_types.specs.Seconds.{TellsSecondUnion}
use Rattle.lw_types.proofs.Membership.{item_at}
use Rattle.lw_types.proofs.naming.names.KnownNames.find_second_unions.Goals as goal

pub loop-i-preserved : goal.loop-i-preserved
loop-i-preserved c =
    let g = c.args.self.now.g.now in
    let lent = c.as_slice-union-items in
    let x = c.union-item.result in
    Finds-at-more (TellsSecondUnion g) g.unions c.loop-i.i x (item_at lent.result.now g.unions c.loop-i.i x lent.ensures (omega arith) c.union-item.is)
    c.loop-i.invariant c.in_ok-find_second_union.ensures

pub returns : goal.returns
returns c =
    let g = c.args.self.now.g.now in
    Finds-at-all (TellsSecondUnion g) g.unions c.loop-i.i (omega (arith, ap length c.as_slice-union-items.ensures)) c.loop-i.invariant
