use Rattle.lw_grammar.proofs.Meaning.{one_of_two}
use Rattle.lw_numbers.specs.Numbering as numbering
use Rattle.lw_kinds.proofs.lexicon.lexicon.Lexicon.callee.Goals as goal

pub returns-in-None : goal.returns-in-None
returns-in-None c kinds are = (c.in-None.ensures kinds are, λ r rule is. one_of_two _ _ _ _ _ _ _ _ _ is c.in-Terminal.ensures)

pub returns-in-Nothing : goal.returns-in-Nothing
returns-in-Nothing c kinds are = (λ k is. c.in-Nothing.ensures _ (numbering.terminal is.place is.terminal is.meant), λ r rule is. c.in-Nothing.ensures _ (numbering.rule_ r rule is))
