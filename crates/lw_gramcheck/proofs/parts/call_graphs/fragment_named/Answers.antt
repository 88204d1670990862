use Rattle.lw_gramcheck.proofs.EdgeLemmas.{no_fragment_of_terminal, no_fragment_of_nothing}
use Rattle.lw_gramcheck.proofs.parts.call_graphs.fragment_named.Goals as goal

pub returns-in-Terminal : goal.returns-in-Terminal
returns-in-Terminal c = no_fragment_of_terminal c.args.checker.now.g.now c.args.name.now c.in-Terminal.field-0 c.in-Terminal.field-1.now c.in-Terminal.ensures

pub returns-in-Nothing : goal.returns-in-Nothing
returns-in-Nothing c = no_fragment_of_nothing c.args.checker.now.g.now c.args.name.now c.in-Nothing.ensures
