use Rattle.lw_properties.specs.Mixing.{PutAt}
use Rattle.lw_properties.specs.Places.{spot_of}
use Rattle.lw_properties.proofs.Found.{found_more}
use Rattle.lw_properties.proofs.puts.put_puts.Goals as goal

pub loop-place-preserved : goal.loop-place-preserved
loop-place-preserved c =
    found_more spot_of (PutAt c.args.known.now.g.now) c.args.places.now c.loop-place.place-index c.place-item.result c.loop-place-test.true c.place-item.is c.loop-place.invariant
    c.in_ok-put_at.ensures
