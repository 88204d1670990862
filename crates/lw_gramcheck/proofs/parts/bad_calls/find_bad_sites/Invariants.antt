use Rattle.std.proofs.Common.{take}
use Rattle.lw_faults.specs.Finding.{Finds, OfSome}
use Rattle.lw_gramcheck.specs.Sites.{site_of}
use Rattle.lw_gramcheck.specs.BadSites.{BadSite}
use Rattle.lw_gramcheck.proofs.parts.bad_calls.find_bad_sites.Given as goal

abbrev pub invariant-loop-site : goal.invariant-loop-site
invariant-loop-site l = Finds (OfSome (λ site. BadSite l.fn.checker.g.now l.fn.rule (site_of site)) (take l.site-index l.site-items)) l.fn.found l.found
