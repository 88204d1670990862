use Rattle.std.proofs.Common.{Some, sym, ap}
use Rattle.std.proofs.lemmas.Option.{same_Some}
use Rattle.lw_faults.proofs.Joining.{Finds-iff, Finds-pushed}
use Rattle.lw_gramcheck.specs.Sites.{Site, site_of}
use Rattle.lw_gramcheck.proofs.parts.sites.put_part.Goals as goal

pub returns-in_ok-push : goal.returns-in_ok-push
returns-in_ok-push c = λ g known.
    let exact = c.in-Some.ensures g known in
    let put : Site = site_of c.in-Some.site in
    Finds-iff (λ call. (λ is. (exact call).1 (ap Some (sym is)), λ so. sym (same_Some put call ((exact call).0 so))))
    (Finds-pushed site_of c.args.sites.now.items c.push.new.self.items c.in-Some.site c.in_ok-push.ensures.items)
