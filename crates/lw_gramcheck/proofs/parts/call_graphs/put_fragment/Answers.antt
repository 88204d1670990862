use Rattle.std.proofs.Common.{◌≡◌, true, [], List, map, subst, sym}
use Rattle.lw_faults.specs.Finding.{Finds}
use Rattle.lw_faults.proofs.Joining.{Finds-more, Finds-gathered}
use Rattle.lw_gramcheck.specs.declared.parts.sites.CallSite.{CallSite}
use Rattle.lw_gramcheck.specs.Sites.{site_of, HasSite}
use Rattle.lw_gramcheck.specs.Edges.{CallsFragment}
use Rattle.lw_gramcheck.proofs.EdgeLemmas.{whole_fragment}
use Rattle.lw_gramcheck.proofs.parts.call_graphs.put_fragment.Goals as goal

pub loop-site-preserved : goal.loop-site-preserved
loop-site-preserved c =
    let has = CallsFragment c.args.checker.now.g.now c.args.q in
    Finds-more (λ site. has (site_of site)) c.deref-site-items.result.now c.loop-site.site-index c.site-item.result c.loop-site-test.true c.site-item.is
    c.loop-site.invariant c.in_ok-put_fragment_call.ensures

pub returns : goal.returns
returns c =
    let g = c.args.checker.now.g.now in
    let P : List CallSite → Type 0 = λ sites. Finds (HasSite g c.args.rule.now) [] (map site_of sites) in
    let gathered = subst P (sym c.deref-site-items.ensures.value) (c.in_ok-sites.ensures g c.requires.name_rules) in
    let whole : c.args.rule.now.is_fragment ≡ true = c.if-not-rule.false in
    whole_fragment g c.args.q c.args.rule.now whole
    (Finds-gathered site_of (CallsFragment g c.args.q) c.deref-site-items.result.now c.loop-site.site-index c.loop-site-test.false gathered
    c.loop-site.invariant)
