use Rattle.std.proofs.Common.{map, ap, ◌∙◌}
use Rattle.lw_grammar.specs.Written.{term_calls}
use Rattle.lw_numbers.specs.Parts.{term_call_of}
use Rattle.lw_faults.proofs.Joining.{Finds-more, Finds-all, Finds-read}
use Rattle.lw_gramcheck.specs.Edges.{CallsTerminal}
use Rattle.lw_gramcheck.proofs.parts.call_graphs.put_terminal.Goals as goal

pub loop-call-preserved : goal.loop-call-preserved
loop-call-preserved c =
    let has = CallsTerminal c.args.checker.now.g.now c.args.t in
    Finds-more (λ call. has (term_call_of call)) c.deref-call-items.result.now c.loop-call.call-index c.call-item.result c.loop-call-test.true c.call-item.is
    c.loop-call.invariant c.in_ok-put_terminal_call.ensures

pub returns : goal.returns
returns c =
    let has = CallsTerminal c.args.checker.now.g.now c.args.t in
    let calls = c.deref-call-items.result.now in
    Finds-read term_call_of has calls (term_calls c.args.terminal.now.body) (ap (map term_call_of) c.deref-call-items.ensures.value ∙ c.in_ok-calls.ensures)
    (Finds-all (λ call. has (term_call_of call)) calls c.loop-call.call-index c.loop-call-test.false c.loop-call.invariant)
