use Rattle.std.proofs.Common.{◌≡◌, ◌↔◌, ℕ, List, Option, Some, sym, subst, Bor}
use Rattle.std.specs.Option.{option_copied, option_map}
use Rattle.lw_gramcheck.specs.Sites.{Site, site_of, CrossCalls}
use Rattle.lw_gramcheck.proofs.parts.sites.cross_site.Goals as goal

pub returns-in-None : goal.returns-in-None
returns-in-None c = λ g known.
    let P : Option (Bor (List ℕ)) → Type 0 = λ rule. (call : Site) →
    CrossCalls g c.args.wanted.now (option_copied rule) c.args.span call ↔ (option_map site_of c.site_by_name.result ≡ Some call) in
    subst P (sym c.in-None.is) (c.site_by_name.ensures g known)
