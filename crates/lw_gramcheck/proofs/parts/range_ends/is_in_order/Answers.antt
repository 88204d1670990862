use Rattle.std.proofs.lemmas.Bool.{leb-true, le-leb}
use Rattle.lw_gramcheck.proofs.CharLemmas.{order_of_ends, ends_in_order}
use Rattle.lw_gramcheck.proofs.parts.range_ends.is_in_order.Goals as goal

pub returns-in-Some-Some : goal.returns-in-Some-Some
returns-in-Some-Some c =
    let low = c.in-Some-Some.low in
    let high = c.in-Some-Some.high in
    let low_is = c.in-Some-Some.ensures in
    let high_is = c.in-Some-Some.ensures' in (
      λ is. ends_in_order c.args.first.now c.args.last.now low high low_is high_is (leb-true low high is),
      λ is. le-leb low high (order_of_ends c.args.first.now c.args.last.now low high low_is high_is is),
    )
