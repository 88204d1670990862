use Rattle.lw_faults.proofs.Joining.{Finds-more}
use Rattle.lw_gramcheck.specs.BadSites.{HasBadPart}
use Rattle.lw_gramcheck.proofs.parts.bad_calls.find_in_terminals.Goals as goal

pub loop-terminal-preserved : goal.loop-terminal-preserved
loop-terminal-preserved c =
    Finds-more (HasBadPart c.args.checker.now.g.now) c.as_slice-terminal-items.result.now c.loop-terminal.terminal-index c.terminal-item.result
    c.loop-terminal-test.true c.terminal-item.is c.loop-terminal.invariant c.in_ok-find_in_terminal.ensures
