-- Slots that turn one after the other, as a document's exports are gone through.
use Rattle.std.proofs.Common.{◌≡◌, ℕ, ◌+◌, ◌<◌, List, [], ◌∷◌, Bool, true, false, cond, length, take, get_or, Option, Some, None, refl, sym, ap, ◌∙◌}
use Rattle.std.specs.Prelude.{Result, Ok, Err, OnErr}
use Rattle.std.proofs.lemmas.List.Sums.{fold_more}
use Rattle.lw_base.specs.declared.numbers.DocId.{DocId}
use Rattle.lw_index.specs.declared.exporters.Slot.{Slot}
use Rattle.lw_index.specs.declared.parts.Export.{Export}
use Rattle.lw_index.specs.Slots.{Place, Names, slot_at, filled}
use Rattle.lw_index.specs.Turns.{Turn, reserved, is_spot, turned, TurnsOf, TurnsAll, AreFilledAlike}

module _ (turn : Export → Turn) (uri : List ℕ) where
  pub turned_none : (n : List ℕ) (p : Place) (slot : Option Slot) → turned turn uri n p slot [] ≡ slot
  unfolding turned
  turned_none n p slot = refl

  pub turned_more : (n : List ℕ) (p : Place) (slot : Option Slot) (xs : List Export) (i : ℕ) (x : Export) → i < length xs → x ≡ get_or xs i x
      → turned turn uri n p slot (take (i + 1) xs) ≡ cond (is_spot x.name (x.type_id.0, uri) n p) (turn x (turned turn uri n p slot (take i xs))) (turned turn uri n p slot (take i xs))
  unfolding turned
  turned_more n p slot xs i x lt is =
      fold_more (λ s y. cond (is_spot y.name (y.type_id.0, uri) n p) (turn y s) s) slot xs i x lt
      ∙ ap (λ y. cond (is_spot y.name (y.type_id.0, uri) n p) (turn y (turned turn uri n p slot (take i xs))) (turned turn uri n p slot (take i xs))) (sym is)

  pub all_none : (xs : List Export) (names : Names) → TurnsAll turn uri (take 0 xs) names names
  all_none xs names = λ n p. sym (turned_none n p (slot_at names n p))

  pub all_more : (xs : List Export) (i : ℕ) (x : Export) (before mid after : Names) → i < length xs → x ≡ get_or xs i x
      → TurnsAll turn uri (take i xs) before mid → TurnsOf (turn x) x.name (x.type_id.0, uri) mid after → TurnsAll turn uri (take (i + 1) xs) before after
  all_more xs i x before mid after lt is all of =
      λ n p. of n p ∙ ap (λ s. cond (is_spot x.name (x.type_id.0, uri) n p) (turn x s) s) (all n p) ∙ sym (turned_more n p (slot_at before n p) xs i x lt is)

reserved_fills : (doc : DocId) (b : Bool) (s : Option Slot) → filled (cond b (reserved doc s) s) ≡ filled s
reserved_fills doc true None = refl
reserved_fills doc true (Some s) = refl
reserved_fills doc false s = refl

-- what is reserved stays free
pub reserved_alike : (doc : DocId) (uri : List ℕ) (n : List ℕ) (p : Place) (slot : Option Slot) (xs : List Export) → filled (turned (λ _. reserved doc) uri n p slot xs) ≡ filled slot
unfolding turned
reserved_alike doc uri n p slot [] = refl
reserved_alike doc uri n p slot (x ∷ xs) =
    reserved_alike doc uri n p (cond (is_spot x.name (x.type_id.0, uri) n p) (reserved doc slot) slot) xs ∙ reserved_fills doc (is_spot x.name (x.type_id.0, uri) n p) slot

pub all_reserved_alike : (doc : DocId) (uri : List ℕ) (xs : List Export) (before after : Names) → TurnsAll (λ _. reserved doc) uri xs before after → AreFilledAlike before after
all_reserved_alike doc uri xs before after all = λ n p. ap filled (all n p) ∙ reserved_alike doc uri n p (slot_at before n p) xs

pub on_err : {T E P : Type 0} (r : Result T E) → P → OnErr r P
on_err (Ok x) p = tt
on_err (Err e) p = p
