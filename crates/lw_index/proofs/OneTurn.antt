-- That one slot has turned, from what a map says of each of its keys.
use Rattle.std.proofs.Common.{◌≡◌, Bool, true, false, cond, Option, Some, None, refl, sym, ap, ◌∙◌}
use Rattle.std.specs.Ordering.{eq_by_cmp}
use Rattle.lw_index.specs.declared.exporters.Slot.{Slot}
use Rattle.lw_index.specs.Slots.{Place, place_cmp, Exporters, slot_in}
use Rattle.std.specs.Option.{IsSome, is_some}
use Rattle.std.proofs.lemmas.Bool.{false≢true}
use Rattle.lw_base.specs.declared.numbers.DocId.{DocId}
use Rattle.lw_index.specs.Turns.{Turn, TurnsAt, reserved, swept}
use Rattle.lw_index.proofs.Orders.{same_place}

pub turns_written : (turn : Turn) (place : Place) (es n : Exporters) (w : Option Slot) → turn (slot_in es place) ≡ w
    → ((p : Place) → slot_in n p ≡ cond (eq_by_cmp place_cmp place p) w (slot_in es p)) → TurnsAt turn place es n
turns_written turn place es n w is at = λ p. at p ∙ written p (eq_by_cmp place_cmp place p) refl
  where
    written : (p : Place) (b : Bool) → eq_by_cmp place_cmp place p ≡ b → cond b w (slot_in es p) ≡ cond b (turn (slot_in es p)) (slot_in es p)
    written p true e = sym is ∙ ap (λ q. turn (slot_in es q)) (same_place place p e)
    written p false e = refl

pub turns_nothing : (turn : Turn) (place : Place) (es n : Exporters) → turn (slot_in es place) ≡ slot_in es place
    → ((p : Place) → slot_in n p ≡ slot_in es p) → TurnsAt turn place es n
turns_nothing turn place es n is at = λ p. at p ∙ kept p (eq_by_cmp place_cmp place p) refl
  where
    kept : (p : Place) (b : Bool) → eq_by_cmp place_cmp place p ≡ b → slot_in es p ≡ cond b (turn (slot_in es p)) (slot_in es p)
    kept p true e = let same = same_place place p e in sym (ap (slot_in es) same) ∙ sym is ∙ ap (λ q. turn (slot_in es q)) same
    kept p false e = refl

pub reserved-some : (doc : DocId) (o : Option Slot) → IsSome o → reserved doc o ≡ o
reserved-some doc None h = absurd (false≢true h)
reserved-some doc (Some s) h = refl

pub reserved-none : (doc : DocId) (o : Option Slot) → is_some o ≡ false → reserved doc o ≡ Some (record { doc = doc; node = None })
reserved-none doc None h = refl
reserved-none doc (Some s) h = absurd (false≢true (sym h))

pub swept-free : (o : Option Slot) (s : Slot) → Some s ≡ o → is_some s.node ≡ false → swept o ≡ None
swept-free o s at free = sym (ap swept at) ∙ ap (λ b. cond b (Some s) None) free

pub swept-held : (o : Option Slot) (s : Slot) → Some s ≡ o → is_some s.node ≡ true → swept o ≡ o
swept-held o s at held = sym (ap swept at) ∙ ap (λ b. cond b (Some s) None) held ∙ at
