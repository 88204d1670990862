use Rattle.std.proofs.Common.{arith}
use Rattle.lw_faults.proofs.Joining.{Finds-more}
use Rattle.lw_types.specs.Attributes.{RepeatsAttribute}
use Rattle.lw_types.proofs.naming.attributes.find_second_attributes.Goals as goal

pub loop-interface-preserved : goal.loop-interface-preserved
loop-interface-preserved c =
    Finds-more RepeatsAttribute c.args.interfaces.now c.loop-interface.interface-index c.interface-item.result (omega arith) c.interface-item.is
    c.loop-interface.invariant c.in_ok-find_repeated.ensures
