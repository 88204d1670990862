use Rattle.lw_faults.proofs.Joining.{Finds-at-more, Finds-at-all}
use Rattle.lw_gramcheck.specs.Edges.{CallsFragments}
use Rattle.lw_gramcheck.proofs.Places.{reads_at, past_all}
use Rattle.lw_gramcheck.proofs.parts.call_graphs.fragment_edges.Goals as goal

pub loop-q-preserved : goal.loop-q-preserved
loop-q-preserved c =
    let g = c.args.checker.now.g.now in
    let at = reads_at c.as_slice-rule-items.result.now g.rules c.loop-q.q c.rule-item.result c.as_slice-rule-items.ensures c.loop-q-test.true c.rule-item.is in
    Finds-at-more (CallsFragments g) g.rules c.loop-q.q c.rule-item.result at c.loop-q.invariant c.in_ok-put_fragment.ensures

pub returns : goal.returns
returns c =
    let g = c.args.checker.now.g.now in
    let past = past_all c.as_slice-rule-items.result.now g.rules c.loop-q.q c.as_slice-rule-items.ensures c.loop-q-test.false in
    Finds-at-all (CallsFragments g) g.rules c.loop-q.q past c.loop-q.invariant
