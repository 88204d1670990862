-- The rule that is called reads nothing, or it reads a token; the other is the entry.
use Rattle.lw_faults.specs.Worked.{x_id, no_place}
use Rattle.lw_grammar.specs.declared.rule.Element.TheVariants.{Maybe}
use Rattle.lw_faults.proofs.ReadsWorked.{b_found, b_not_found, entry_nowhere}
use Rattle.lw_faults.proofs.laws.rules_that_read_nothing.Goals as goal

pub returns : goal.returns
returns c = record { optional = b_found; always = b_not_found; entry = entry_nowhere (Maybe x_id no_place) }
