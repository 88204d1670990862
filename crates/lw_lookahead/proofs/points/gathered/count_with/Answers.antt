use Rattle.std.proofs.Common.{length, ap, subst, arith}
use Rattle.std.proofs.lemmas.List.Elements.{All-more}
use Rattle.std.proofs.lemmas.List.Sums.{sum_by_more}
use Rattle.lw_first.specs.Sets.{AreDistinctHeads}
use Rattle.lw_lookahead.proofs.points.gathered.count_with.Goals as goal

pub loop-way-preserved : goal.loop-way-preserved
loop-way-preserved c =
    let ways = c.args.ways.now in
    let i = c.loop-way.way-index in
    let way = c.way-item.result in
    let more = sum_by_more length ways i way c.loop-way-test.true in
    record {
      counted = omega (arith, c.saturating_add-strings.ensures, c.loop-way.invariant.counted, c.len.ensures.count, ap length c.way-item.is, more);
      distinct = All-more AreDistinctHeads ways i way c.loop-way-test.true c.loop-way.invariant.distinct (subst AreDistinctHeads c.way-item.is c.len.ensures.distinct);
    }
