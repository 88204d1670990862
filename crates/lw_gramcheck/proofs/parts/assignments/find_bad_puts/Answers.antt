use Rattle.std.proofs.Common.{[], List, map, subst, sym}
use Rattle.lw_faults.specs.Finding.{Finds}
use Rattle.lw_faults.proofs.Joining.{Finds-more, Finds-gathered}
use Rattle.lw_gramcheck.specs.declared.parts.sites.CallSite.{CallSite}
use Rattle.lw_gramcheck.specs.Sites.{site_of, HasSite}
use Rattle.lw_gramcheck.specs.BadSites.{BadPut}
use Rattle.lw_gramcheck.proofs.parts.assignments.find_bad_puts.Goals as goal

pub loop-site-preserved : goal.loop-site-preserved
loop-site-preserved c =
    let has = BadPut c.args.checker.now.g.now c.args.rule.now in
    Finds-more (λ site. has (site_of site)) c.deref-site-items.result.now c.loop-site.site-index c.site-item.result c.loop-site-test.true c.site-item.is
    c.loop-site.invariant c.in_ok-find_bad_put.ensures

pub returns : goal.returns
returns c =
    let g = c.args.checker.now.g.now in
    let P : List CallSite → Type 0 = λ sites. Finds (HasSite g c.args.rule.now) [] (map site_of sites) in
    let gathered = subst P (sym c.deref-site-items.ensures.value) (c.in_ok-sites.ensures g c.requires.name_rules) in
    Finds-gathered site_of (BadPut g c.args.rule.now) c.deref-site-items.result.now c.loop-site.site-index c.loop-site-test.false gathered
    c.loop-site.invariant
