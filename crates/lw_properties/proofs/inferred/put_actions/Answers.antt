use Rattle.lw_properties.specs.Mixing.{InfersAt}
use Rattle.lw_properties.specs.Places.{spot_of}
use Rattle.lw_properties.proofs.Found.{found_more}
use Rattle.lw_properties.proofs.inferred.put_actions.Goals as goal

pub loop-place-preserved : goal.loop-place-preserved
loop-place-preserved c =
    found_more spot_of InfersAt c.args.places.now c.loop-place.place-index c.place-item.result c.loop-place-test.true c.place-item.is c.loop-place.invariant
    c.in_ok-put_action.ensures
