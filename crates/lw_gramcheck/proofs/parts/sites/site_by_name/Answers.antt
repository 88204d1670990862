use Rattle.lw_gramcheck.proofs.SiteLemmas.{by_one_name, by_no_name}
use Rattle.lw_gramcheck.proofs.parts.sites.site_by_name.Goals as goal

pub returns-in-Some : goal.returns-in-Some
returns-in-Some c = λ g known. by_one_name g c.args.wanted.now c.args.span c.in-Some.name.now (c.in-Some.ensures g known)

pub returns-in-None : goal.returns-in-None
returns-in-None c = λ g known. by_no_name g c.args.wanted.now c.args.span (c.in-None.ensures g known)
