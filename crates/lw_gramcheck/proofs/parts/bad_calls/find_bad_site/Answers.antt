use Rattle.lw_faults.specs.Faults.{fault}
use Rattle.lw_faults.proofs.Joining.{Finds-where}
use Rattle.lw_gramcheck.specs.Sites.{site_of}
use Rattle.lw_gramcheck.specs.BadSites.{IsBadSite}
use Rattle.lw_gramcheck.proofs.parts.bad_calls.find_bad_site.Goals as goal

pub returns : goal.returns
returns c =
    let bad : IsBadSite c.args.checker.now.g.now (site_of c.args.site.now) = c.is_bad_site.ensures.0 c.if-not-is_bad_site.false in
    Finds-where (IsBadSite c.args.checker.now.g.now (site_of c.args.site.now)) (fault 21 c.args.rule.now.file c.args.site.now.span c.args.site.now.name.now) bad
    c.in_ok-add.ensures
