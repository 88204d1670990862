use Rattle.lw_numbers.specs.Spoken.{InterfaceSpeaks}
use Rattle.lw_numbers.proofs.Speaking.{extends_more, extends_all}
use Rattle.lw_numbers.proofs.subtypes.names.put_interfaces.Goals as goal
use Rattle.lw_base.proofs.Lists.{item_at}

pub loop-interface-preserved : goal.loop-interface-preserved
loop-interface-preserved c =
    let items = c.args.interfaces.now in
    let n = c.loop-interface.interface-index in
    let x = c.interface-item.result in
    extends_more items (λ k interface. InterfaceSpeaks interface) n x (item_at items n x c.loop-interface-test.true c.interface-item.is) c.loop-interface.invariant
    c.in_ok-put_above.ensures

pub returns : goal.returns
returns c =
    extends_all c.args.interfaces.now (λ k interface. InterfaceSpeaks interface) c.loop-interface.interface-index c.loop-interface-test.false c.loop-interface.invariant
