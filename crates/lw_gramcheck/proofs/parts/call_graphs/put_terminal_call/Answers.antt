use Rattle.lw_numbers.specs.Parts.{term_call_of}
use Rattle.lw_gramcheck.proofs.EdgeLemmas.{one_terminal_call, no_terminal_call}
use Rattle.lw_gramcheck.proofs.parts.call_graphs.put_terminal_call.Goals as goal

pub returns-in_ok-push-in-Some : goal.returns-in_ok-push-in-Some
returns-in_ok-push-in-Some c = one_terminal_call c.args.checker.now.g.now c.args.t (term_call_of c.args.call.now) c.in-Some.u c.in-Some.ensures c.in_ok-push-in-Some.ensures.items

pub returns-in-None : goal.returns-in-None
returns-in-None c = no_terminal_call c.args.checker.now.g.now c.args.t (term_call_of c.args.call.now) c.in-None.ensures
