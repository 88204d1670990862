use Rattle.std.proofs.Common.{take}
use Rattle.lw_faults.specs.Finding.{Finds, OfSome}
use Rattle.lw_gramcheck.specs.Sites.{site_of}
use Rattle.lw_gramcheck.specs.Edges.{CallsFragment}
use Rattle.lw_gramcheck.proofs.parts.call_graphs.put_fragment.Given as goal

abbrev pub invariant-loop-site : goal.invariant-loop-site
invariant-loop-site l = Finds (OfSome (λ site. CallsFragment l.fn.checker.g.now l.fn.q (site_of site)) (take l.site-index l.site-items)) l.fn.edges.items l.edges.items
