use Rattle.std.proofs.Common.{◌≡◌, cond, Some, None, subst, sym, ap, refl, ◌∙◌}
use Rattle.std.specs.Ordering.{eq_by_cmp}
use Rattle.lw_index.specs.Slots.{Place, place_cmp, slot_in}
use Rattle.lw_index.specs.Turns.{reserved}
use Rattle.lw_index.proofs.OneTurn.{turns_written, turns_nothing, reserved-some, reserved-none}
use Rattle.lw_index.proofs.exporters.reserve.Goals as goal

pub returns-then-contains_key-clause-made : goal.returns-then-contains_key-clause-made
returns-then-contains_key-clause-made c =
    let es = c.args.exporters.now in
    turns_nothing (reserved c.args.doc) c.args.place.now es es (reserved-some c.args.doc (slot_in es c.args.place.now) (sym c.contains_key.ensures ∙ c.if-contains_key.true)) (λ p. refl)

pub returns-clause-made : goal.returns-clause-made
returns-clause-made c =
    let es = c.args.exporters.now in
    let n = c.insert.new.self in
    let key : Place = (c.args.place.now.0, c.in_ok-uri.uri) in
    let same : key ≡ c.args.place.now = ap (λ u. (let p : Place = (c.args.place.now.0, u) in p)) c.in_ok-uri.ensures in
    turns_written (reserved c.args.doc) c.args.place.now es n (Some (record { doc = c.args.doc; node = None })) (reserved-none c.args.doc (slot_in es c.args.place.now) (sym c.contains_key.ensures ∙ c.if-contains_key.false))
    (subst (λ k. (p : Place) → slot_in n p ≡ cond (eq_by_cmp place_cmp k p) (Some (record { doc = c.args.doc; node = None })) (slot_in es p)) same c.in_ok-insert.ensures.updates.0)
