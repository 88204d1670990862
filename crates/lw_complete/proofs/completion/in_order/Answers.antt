use Rattle.std.proofs.Common.{◌↔◌, ◌⊎◌, List, All, AllPairs, Contains, map, subst, sym}
use Rattle.std.specs.List.Sorted.{IsPermutation}
use Rattle.std.proofs.lemmas.List.Filters.{dedup_is}
use Rattle.lw_places.specs.Offers.{OfferPrecedes, keyword_offer, name_offer}
use Rattle.lw_complete.specs.declared.item.Item.{Item}
use Rattle.lw_complete.specs.Items.{TakesThePlace, offer_of}
use Rattle.lw_complete.proofs.ItemsOrdered.{both_exact, both_here, both_in_order, item_eq}
use Rattle.lw_complete.proofs.completion.in_order.Goals as goal

pub returns-clause-exact : goal.returns-clause-exact
returns-clause-exact c x =
    let sorted = c.sort_unstable.new.self.items in
    let moved = subst (λ (items : List Item). IsPermutation items sorted) c.in_ok-items.ensures c.sort_unstable.ensures.permutation in
    let P : List Item → Type 0 =
    λ items. Contains (map offer_of items) x ↔ (Contains (map keyword_offer c.args.keywords.items) x ⊎ Contains (map name_offer c.args.names.items) x) in
    subst P (sym (dedup_is item_eq _ _ c.dedup.ensures.filtered))
    (both_exact c.args.from c.args.to c.args.keywords.items c.args.names.items sorted moved x)

pub returns-clause-ordered : goal.returns-clause-ordered
returns-clause-ordered c =
    let sorted = c.sort_unstable.new.self.items in
    let moved = subst (λ (items : List Item). IsPermutation items sorted) c.in_ok-items.ensures c.sort_unstable.ensures.permutation in
    let P : List Item → Type 0 = λ items. AllPairs OfferPrecedes (map offer_of items) in
    subst P (sym (dedup_is item_eq _ _ c.dedup.ensures.filtered))
    (both_in_order c.args.from c.args.to c.args.keywords.items c.args.names.items sorted moved c.sort_unstable.ensures.sorted)

pub returns-clause-spans : goal.returns-clause-spans
returns-clause-spans c =
    let sorted = c.sort_unstable.new.self.items in
    let moved = subst (λ (items : List Item). IsPermutation items sorted) c.in_ok-items.ensures c.sort_unstable.ensures.permutation in
    subst (All (TakesThePlace c.args.from c.args.to)) (sym (dedup_is item_eq _ _ c.dedup.ensures.filtered))
    (both_here c.args.from c.args.to c.args.keywords.items c.args.names.items sorted moved)
