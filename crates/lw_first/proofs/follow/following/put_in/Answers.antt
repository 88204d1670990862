use Rattle.std.proofs.Common.{◌≡◌, ◌<◌, Bool, true, false, List, length, ◌⊎◌, inl, inr, refl, sym, subst}
use Rattle.std.proofs.lemmas.Option.{slice_get_read}
use Rattle.lw_first.specs.declared.heads.head.Head.{Head}
use Rattle.lw_first.specs.Sets.{AddsHeads, IsAmongHeads}
use Rattle.lw_first.proofs.Putting.{puts_one}
use Rattle.lw_first.proofs.follow.following.put_in.Goals as goal

stayed_or_grew : (old new : List Head) (has_new : Bool) → (has_new ≡ true → length old < length new) → (has_new ≡ false → new ≡ old) → (new ≡ old) ⊎ (length old < length new)
stayed_or_grew old new true grows same = inr (grows refl)
stayed_or_grew old new false grows same = inl (same refl)

pub returns : goal.returns
returns c =
    let sets = c.args.sets.now in
    let set = c.index-sets-rule.result in
    let new = c.insert_all.new.self in
    let has_new = c.in_ok-insert_all.field-0 in
    puts_one (IsAmongHeads c.args.after.now) sets c.args.rule set new (slice_get_read sets (length sets) c.args.rule set refl c.requires c.index-sets-rule.is)
    (subst (λ old. AddsHeads (IsAmongHeads c.args.after.now) old new) (sym c.index-sets-rule.is) c.in_ok-insert_all.ensures.adds)
    (stayed_or_grew set new has_new (subst (λ (old : List Head). has_new ≡ true → length old < length new) (sym c.index-sets-rule.is) c.in_ok-insert_all.ensures.grows)
    (subst (λ (old : List Head). has_new ≡ false → new ≡ old) (sym c.index-sets-rule.is) c.in_ok-insert_all.ensures.same))
