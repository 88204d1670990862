-- What is put behind one after the other is put behind together.
use Rattle.std.proofs.Common.{◌≡◌, ℕ, zero, suc, ◌++◌, List, [], ◌∷◌, Some, slice_get, refl, sym, ap, ◌∙◌, subst}
use Rattle.std.specs.List.{AllZip}
use Rattle.std.proofs.lemmas.List.{append-nil, append_assoc}
use Rattle.std.proofs.lemmas.Option.{none-some, same_Some}
use Rattle.lw_program.specs.Drafted.{AddsFor}

module _ {X Y : Type 0} (fits : X → Y → Type 0) where
  zip_both : (xs us : List X) (ys vs : List Y) → AllZip fits xs ys → AllZip fits us vs → AllZip fits (xs ++ us) (ys ++ vs)
  zip_both [] us [] vs one other = other
  zip_both [] us (y ∷ ys) vs one other = absurd one
  zip_both (x ∷ xs) us [] vs one other = absurd one
  zip_both (x ∷ xs) us (y ∷ ys) vs (fit, one) other = (fit, zip_both xs us ys vs one other)

  -- what fits the one at a place stands at that place
  pub zip_at : (xs : List X) (ys : List Y) → AllZip fits xs ys → (n : ℕ) (x : X) → slice_get xs n ≡ Some x → (y : Y) × (slice_get ys n ≡ Some y) × fits x y
  zip_at [] ys all n x is = absurd (none-some x is)
  zip_at (x ∷ xs) [] all n z is = absurd all
  zip_at (x ∷ xs) (y ∷ ys) (fit, all) zero z is = (y, refl, subst (λ x. fits x y) (same_Some x z is) fit)
  zip_at (x ∷ xs) (y ∷ ys) (fit, all) (suc n) z is = zip_at xs ys all n z is

  pub zip_one : (xs : List X) (ys new : List Y) (x : X) (y : Y) → AllZip fits xs ys → fits x y → new ≡ ys ++ y ∷ [] → AllZip fits (xs ++ x ∷ []) new
  zip_one xs ys new x y all fit is = subst (AllZip fits (xs ++ x ∷ [])) (sym is) (zip_both xs (x ∷ []) ys (y ∷ []) all (fit, tt))

  pub zip_more : (xs us : List X) (old new : List Y) → AllZip fits xs old → AddsFor fits us old new → AllZip fits (xs ++ us) new
  zip_more xs us old new all adds = subst (AllZip fits (xs ++ us)) (sym adds.behind) (zip_both xs us old adds.more all adds.each)

  pub adds_none : (old : List Y) → AddsFor fits [] old old
  adds_none old = record { more = []; behind = sym (append-nil old); each = tt }

  pub adds_one : (x : X) (y : Y) (old new : List Y) → fits x y → new ≡ old ++ y ∷ [] → AddsFor fits (x ∷ []) old new
  adds_one x y old new fit is = record { more = y ∷ []; behind = is; each = (fit, tt) }

  pub adds_both : {xs us : List X} {old mid new : List Y} → AddsFor fits xs old mid → AddsFor fits us mid new → AddsFor fits (xs ++ us) old new
  adds_both {xs} {us} {old} {mid} {new} one other = record {
    more = one.more ++ other.more;
    behind = other.behind ∙ ap (λ ys. ys ++ other.more) one.behind ∙ append_assoc old one.more other.more;
    each = zip_both xs us one.more other.more one.each other.each;
  }
