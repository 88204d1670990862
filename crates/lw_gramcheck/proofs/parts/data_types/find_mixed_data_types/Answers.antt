use Rattle.lw_faults.proofs.Joining.{Finds-at-more, Finds-at-all}
use Rattle.lw_gramcheck.specs.Parts.{MixedHere}
use Rattle.lw_gramcheck.proofs.DataTypeLemmas.{found_mixed}
use Rattle.lw_gramcheck.proofs.Places.{reads_at, past_all}
use Rattle.lw_gramcheck.proofs.parts.data_types.find_mixed_data_types.Goals as goal

pub loop-r-preserved : goal.loop-r-preserved
loop-r-preserved c =
    let g = c.args.checker.now.g.now in
    let at = reads_at c.as_slice-rule-items.result.now g.rules c.loop-r.r c.rule-item.result c.as_slice-rule-items.ensures c.loop-r-test.true c.rule-item.is in
    Finds-at-more (MixedHere g) g.rules c.loop-r.r c.rule-item.result at c.loop-r.invariant c.in_ok-find_mixed.ensures

pub returns : goal.returns
returns c =
    let g = c.args.checker.now.g.now in
    let past = past_all c.as_slice-rule-items.result.now g.rules c.loop-r.r c.as_slice-rule-items.ensures c.loop-r-test.false in
    found_mixed g (Finds-at-all (MixedHere g) g.rules c.loop-r.r past c.loop-r.invariant)
