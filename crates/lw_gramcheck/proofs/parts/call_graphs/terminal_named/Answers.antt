use Rattle.lw_gramcheck.proofs.EdgeLemmas.{no_terminal_of_rule, no_terminal_of_nothing}
use Rattle.lw_gramcheck.proofs.parts.call_graphs.terminal_named.Goals as goal

pub returns-in-Rule : goal.returns-in-Rule
returns-in-Rule c = no_terminal_of_rule c.args.checker.now.g.now c.args.name.now c.in-Rule.field-0 c.in-Rule.field-1.now c.in-Rule.ensures

pub returns-in-Nothing : goal.returns-in-Nothing
returns-in-Nothing c = no_terminal_of_nothing c.args.checker.now.g.now c.args.name.now c.in-Nothing.ensures
