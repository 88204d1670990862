use Rattle.std.proofs.Common.{refl}
use Rattle.lw_faults.proofs.Joining.{Finds-at-more, Finds-at-all}
use Rattle.lw_gramcheck.specs.Edges.{TerminalIn}
use Rattle.lw_gramcheck.proofs.Places.{reads_at}
use Rattle.lw_gramcheck.proofs.parts.circles.find_terminals_in.Goals as goal

pub loop-t-preserved : goal.loop-t-preserved
loop-t-preserved c =
    let terminal = c.index-terminals-t.result in
    let at = reads_at c.args.terminals.now c.args.terminals.now c.loop-t.t terminal refl c.loop-t-test.true c.index-terminals-t.is in
    Finds-at-more (TerminalIn c.args.round.now) c.args.terminals.now c.loop-t.t terminal at c.loop-t.invariant c.in_ok-find_terminal_in.ensures

pub returns : goal.returns
returns c = Finds-at-all (TerminalIn c.args.round.now) c.args.terminals.now c.loop-t.t c.loop-t-test.false c.loop-t.invariant
