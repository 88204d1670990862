-- What becomes of slots where all exports of one document are turned after those of another.
use Rattle.std.proofs.Common.{◌≡◌, ℕ, List, true, false, sym, ap, ◌∙◌, subst}
use Rattle.std.specs.Prelude.{Result, Ok, Err, OnOk, OnErr, is_err}
use Rattle.std.proofs.lemmas.Bool.{false≢true}
use Rattle.lw_base.specs.declared.numbers.DocId.{DocId}
use Rattle.lw_index.specs.declared.parts.Export.{Export}
use Rattle.lw_index.specs.Slots.{Place, Names, slot_at, filled}
use Rattle.lw_index.specs.Turns.{Turn, reserved, emptied, offered, swept, turned, TurnsAll, AreFilledAlike}
use Rattle.lw_index.proofs.Offered.{swept_alike}

pub on_ok_is : {T E P : Type 0} (r : Result T E) → is_err r ≡ false → OnOk r P → P
on_ok_is (Ok x) is p = p
on_ok_is (Err e) is p = absurd (false≢true (sym is))

pub on_err_is : {T E P : Type 0} (r : Result T E) → is_err r ≡ true → OnErr r P → P
on_err_is (Ok x) is p = absurd (false≢true is)
on_err_is (Err e) is p = p

-- the same turns, by a URI and a list that are known as others
pub turns_known : (turn : Export → Turn) (u v : List ℕ) (xs ys : List Export) (before after : Names) → u ≡ v → xs ≡ ys → TurnsAll turn u xs before after → TurnsAll turn v ys before after
turns_known turn u v xs ys before after uri list all = subst (λ v. TurnsAll turn v ys before after) uri (subst (λ ys. TurnsAll turn u ys before after) list all)

pub emptied_and_swept : (left : List ℕ) (gone : List Export) (names mid after : Names) → TurnsAll (λ _. emptied) left gone names mid → TurnsAll (λ _. swept) left gone mid after
    → (m : List ℕ) (p : Place) → slot_at after m p ≡ turned (λ _. swept) left m p (turned (λ _. emptied) left m p (slot_at names m p) gone) gone
emptied_and_swept left gone names mid after first second m p = second m p ∙ ap (λ s. turned (λ _. swept) left m p s gone) (first m p)

pub exchanged : (doc : DocId) (uri left : List ℕ) (xs gone : List Export) (names ready free full after : Names)
    → TurnsAll (λ _. reserved doc) uri xs names ready → TurnsAll (λ _. emptied) left gone ready free → TurnsAll (λ x. offered doc x.node) uri xs free full → TurnsAll (λ _. swept) left gone full after
    → (m : List ℕ) (p : Place) → slot_at after m p ≡ turned (λ _. swept) left m p (turned (λ x. offered doc x.node) uri m p (turned (λ _. emptied) left m p (turned (λ _. reserved doc) uri m p (slot_at names m p) xs) gone) xs) gone
exchanged doc uri left xs gone names ready free full after r e o s m p =
    s m p ∙ ap (λ z. turned (λ _. swept) left m p z gone)
    (o m p ∙ ap (λ z. turned (λ x. offered doc x.node) uri m p z xs) (e m p ∙ ap (λ z. turned (λ _. emptied) left m p z gone) (r m p)))

pub swept_seen : (uri : List ℕ) (xs : List Export) (before after : Names) → TurnsAll (λ _. swept) uri xs before after → AreFilledAlike before after
swept_seen uri xs before after all m p = ap filled (all m p) ∙ swept_alike uri m p (slot_at before m p) xs

pub alike_chain : (a b c : Names) → AreFilledAlike a b → AreFilledAlike b c → AreFilledAlike a c
alike_chain a b c first second m p = second m p ∙ first m p
