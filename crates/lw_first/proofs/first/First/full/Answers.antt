use Rattle.std.proofs.Common.{◌≡◌, sym, refl, subst}
use Rattle.lw_first.specs.Heads.{kinds_in}
use Rattle.lw_first.specs.Sets.{AddsHeads}
use Rattle.lw_first.proofs.HeadLemmas.{adds_as}
use Rattle.lw_first.proofs.CallForms.{full_before}
use Rattle.lw_first.proofs.first.First.full.Goals as goal

pub returns-in_ok-insert-in-Some : goal.returns-in_ok-insert-in-Some
returns-in_ok-insert-in-Some c =
    let behind = c.in-Some.behind.now in
    let item = c.in-Some.ensures.item in
    adds_as c.args.into.now c.insert.new.self
    (full_before c.args.self.now.k (kinds_in c.args.head) (kinds_in behind) c.args.after.now c.requires.full (behind, (0, item.3.0, sym item.1), refl))
    (subst (λ ks. AddsHeads (λ h. h ≡ ks) c.args.into.now c.insert.new.self) c.followed_by.ensures c.in_ok-insert-in-Some.ensures.adds)
