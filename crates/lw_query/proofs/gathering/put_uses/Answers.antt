-- One reference more is put in.
use Rattle.std.proofs.lemmas.Option.{slice_get-get_or}
use Rattle.lw_query.proofs.Putting.{one_more}
use Rattle.lw_query.proofs.gathering.put_uses.Goals as goal

pub loop-slot-preserved : goal.loop-slot-preserved
loop-slot-preserved g c =
    one_more (g.V.Views.Stands c.args.v.now) (g.V.Views.tree_at c.args.v.now) c.args.slots.now c.loop-slot.slot-index _ c.loop-slot-test.true
    (slice_get-get_or c.args.slots.now c.loop-slot.slot-index _ c.loop-slot-test.true) c.use_spot.result c.use_spot.ensures c.args.keys.now.keys
    c.loop-slot.keys.keys c.put.new.keys.keys c.loop-slot.invariant c.in_ok-put.ensures
