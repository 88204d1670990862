use Rattle.lw_terminals.proofs.EachPattern.{each_pattern}
use Rattle.lw_terminals.proofs.patterns.laws.each_has_a_pattern.Goals as goal

pub returns : goal.returns
returns c = each_pattern
