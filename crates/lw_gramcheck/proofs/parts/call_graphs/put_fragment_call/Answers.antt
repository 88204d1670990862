use Rattle.lw_gramcheck.specs.Sites.{site_of}
use Rattle.lw_gramcheck.proofs.EdgeLemmas.{one_fragment_call, no_fragment_call}
use Rattle.lw_gramcheck.proofs.parts.call_graphs.put_fragment_call.Goals as goal

pub returns-in_ok-push-in-Some : goal.returns-in_ok-push-in-Some
returns-in_ok-push-in-Some c = one_fragment_call c.args.checker.now.g.now c.args.q (site_of c.args.site.now) c.in-Some.r c.in-Some.ensures c.in_ok-push-in-Some.ensures.items

pub returns-in-None : goal.returns-in-None
returns-in-None c = no_fragment_call c.args.checker.now.g.now c.args.q (site_of c.args.site.now) c.in-None.ensures
