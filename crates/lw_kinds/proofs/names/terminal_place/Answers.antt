use Rattle.lw_numbers.specs.Numbering as numbering
use Rattle.lw_grammar.proofs.Meaning.{one_of_two}
use Rattle.lw_kinds.proofs.names.terminal_place.Goals as goal

pub returns-in-Rule : goal.returns-in-Rule
returns-in-Rule c t terminal is = one_of_two _ _ _ _ _ _ _ _ _ c.in-Rule.ensures is

pub returns-in-Nothing : goal.returns-in-Nothing
returns-in-Nothing c t terminal is = c.in-Nothing.ensures _ (numbering.terminal t terminal is)
