use Rattle.std.proofs.Common.{length, ap, arith}
use Rattle.lw_faults.proofs.Joining.{Finds-at-more, Finds-at-all}
use Rattle.lw_types.specs.Seconds.{TellsSecondTerminal}
use Rattle.lw_types.proofs.Membership.{item_at}
use Rattle.lw_types.proofs.naming.names.KnownNames.find_second_terminals.Goals as goal

pub loop-i-preserved : goal.loop-i-preserved
loop-i-preserved c =
    let g = c.args.self.now.g.now in
    let lent = c.as_slice-terminal-items in
    let x = c.terminal-item.result in
    Finds-at-more (TellsSecondTerminal g) g.terminals c.loop-i.i x (item_at lent.result.now g.terminals c.loop-i.i x lent.ensures (omega arith) c.terminal-item.is)
    c.loop-i.invariant c.in_ok-find_second_terminal.ensures

pub returns : goal.returns
returns c =
    let g = c.args.self.now.g.now in
    Finds-at-all (TellsSecondTerminal g) g.terminals c.loop-i.i (omega (arith, ap length c.as_slice-terminal-items.ensures)) c.loop-i.invariant
