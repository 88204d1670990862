use Rattle.lw_faults.proofs.Joining.{Finds-at-more, Finds-at-all}
use Rattle.lw_gramcheck.specs.Edges.{CallsTerminals}
use Rattle.lw_gramcheck.proofs.Places.{reads_at, past_all}
use Rattle.lw_gramcheck.proofs.parts.call_graphs.terminal_edges.Goals as goal

pub loop-t-preserved : goal.loop-t-preserved
loop-t-preserved c =
    let g = c.args.checker.now.g.now in
    let at = reads_at c.as_slice-terminal-items.result.now g.terminals c.loop-t.t c.terminal-item.result c.as_slice-terminal-items.ensures c.loop-t-test.true c.terminal-item.is in
    Finds-at-more (CallsTerminals g) g.terminals c.loop-t.t c.terminal-item.result at c.loop-t.invariant c.in_ok-put_terminal.ensures

pub returns : goal.returns
returns c =
    let g = c.args.checker.now.g.now in
    let past = past_all c.as_slice-terminal-items.result.now g.terminals c.loop-t.t c.as_slice-terminal-items.ensures c.loop-t-test.false in
    Finds-at-all (CallsTerminals g) g.terminals c.loop-t.t past c.loop-t.invariant
