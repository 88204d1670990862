use Rattle.std.proofs.Common.{◌≡◌, List, AllPairs, Contains, map, subst, sym, ap, ◌∙◌}
use Rattle.std.specs.Prelude.{◌↔◌}
use Rattle.std.specs.List.{dedup}
use Rattle.std.proofs.lemmas.List.Filters.{dedup_is}
use Rattle.lw_base.specs.declared.token.Span.{Span}
use Rattle.lw_rename.specs.SpansOf.{SpanPrecedes, keyed_span}
use Rattle.lw_rename.proofs.Listing.{take_past}
use Rattle.lw_rename.proofs.Uses.{key_eq, same_spans, spans_ordered}
use Rattle.lw_rename.proofs.mentions.in_order.Goals as goal

pub returns-clause-exact : goal.returns-clause-exact
returns-clause-exact c =
    let found = c.args.keys.items in
    let sorted = c.sort_unstable.new.self.items in
    let kept : c.dedup.new.self.items ≡ dedup key_eq sorted = dedup_is key_eq _ _ c.dedup.ensures.filtered in
    let items = c.deref-key-items.result.now in
    let whole = c.listing.invariant ∙ ap (map keyed_span) (take_past items c.listing.key-index c.listing-test.false ∙ c.deref-key-items.ensures.value ∙ kept) in
    subst (λ (xs : List Span). (s : Span) → Contains xs s ↔ Contains (map keyed_span found) s) (sym whole) (same_spans found sorted c.sort_unstable.ensures.permutation)

pub returns-clause-ordered : goal.returns-clause-ordered
returns-clause-ordered c =
    let found = c.args.keys.items in
    let sorted = c.sort_unstable.new.self.items in
    let kept : c.dedup.new.self.items ≡ dedup key_eq sorted = dedup_is key_eq _ _ c.dedup.ensures.filtered in
    let items = c.deref-key-items.result.now in
    let whole = c.listing.invariant ∙ ap (map keyed_span) (take_past items c.listing.key-index c.listing-test.false ∙ c.deref-key-items.ensures.value ∙ kept) in
    subst (AllPairs SpanPrecedes) (sym whole) (spans_ordered found sorted c.sort_unstable.ensures.permutation c.sort_unstable.ensures.sorted)
