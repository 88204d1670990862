use Rattle.lw_terminals.proofs.OneTerminal.{one_terminal}
use Rattle.lw_terminals.proofs.patterns.laws.one_pattern.Goals as goal

pub returns : goal.returns
returns c = one_terminal
