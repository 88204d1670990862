use Rattle.lw_gramcheck.specs.Found.{ToldByRule}
use Rattle.lw_gramcheck.proofs.Counting.{one_more}
use Rattle.lw_gramcheck.proofs.OrderLemmas.{found_order}
use Rattle.lw_gramcheck.proofs.RuleLemmas.{all_rules}
use Rattle.lw_gramcheck.proofs.order.order.find_order_faults.Goals as goal

pub loop-number-preserved : goal.loop-number-preserved
loop-number-preserved c = one_more (ToldByRule c.args.g.now c.args.ways.now) c.loop-number.number c.loop-number.invariant c.in_ok-find_in_rule.ensures

pub returns : goal.returns
returns c =
    let g = c.args.g.now in
    let ways = c.args.ways.now in
    found_order g ways c.requires.ways
    (all_rules g ways c.as_slice-rule-items.result.now c.as_slice-rule-items.ensures c.loop-number.number c.loop-number-test.false c.loop-number.invariant)
