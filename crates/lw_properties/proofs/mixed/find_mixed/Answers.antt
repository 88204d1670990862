use Rattle.std.proofs.Common.{map}
use Rattle.lw_properties.specs.Mixing.{putting_of, MixedAt}
use Rattle.lw_properties.proofs.Found.{found_more}
use Rattle.lw_properties.proofs.mixed.find_mixed.Goals as goal

pub loop-put-preserved : goal.loop-put-preserved
loop-put-preserved c =
    let puts = map putting_of c.args.puts.now in
    found_more putting_of (MixedAt puts) c.args.puts.now c.loop-put.put-index c.put-item.result c.loop-put-test.true c.put-item.is c.loop-put.invariant
    (c.in_ok-mixed_at.ensures puts c.in_ok-firsts.ensures)
