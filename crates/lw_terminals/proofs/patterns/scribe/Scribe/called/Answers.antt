use Rattle.lw_terminals.proofs.MeaningLemmas.{rule_is_no_terminal, nothing_is_no_terminal}
use Rattle.lw_terminals.proofs.patterns.scribe.Scribe.called.Goals as goal

pub returns-in-Rule : goal.returns-in-Rule
returns-in-Rule c = rule_is_no_terminal c.args.self.now.g.now c.args.name.now c.in-Rule.field-0 c.in-Rule.field-1.now c.in-Rule.ensures

pub returns-in-Nothing : goal.returns-in-Nothing
returns-in-Nothing c = nothing_is_no_terminal c.args.self.now.g.now c.args.name.now c.in-Nothing.ensures
