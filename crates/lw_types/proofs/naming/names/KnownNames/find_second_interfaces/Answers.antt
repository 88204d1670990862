use Rattle.std.proofs.Common.{length, ap, arith}
use Rattle.lw_faults.proofs.Joining.{Finds-at-more, Finds-at-all}
use Rattle.lw_types.specs.Seconds.{TellsSecondInterface}
use Rattle.lw_types.proofs.Membership.{item_at}
use Rattle.lw_types.proofs.naming.names.KnownNames.find_second_interfaces.Goals as goal

pub loop-i-preserved : goal.loop-i-preserved
loop-i-preserved c =
    let g = c.args.self.now.g.now in
    let lent = c.as_slice-interface-items in
    let x = c.interface-item.result in
    Finds-at-more (TellsSecondInterface g) g.interfaces c.loop-i.i x (item_at lent.result.now g.interfaces c.loop-i.i x lent.ensures (omega arith) c.interface-item.is)
    c.loop-i.invariant c.in_ok-find_second_interface.ensures

pub returns : goal.returns
returns c =
    let g = c.args.self.now.g.now in
    Finds-at-all (TellsSecondInterface g) g.interfaces c.loop-i.i (omega (arith, ap length c.as_slice-interface-items.ensures)) c.loop-i.invariant
