-- Lists that are tied item by item, and items of the front of a list.
use Rattle.std.proofs.Common.{◌≡◌, ℕ, zero, suc, ◌+◌, List, [], ◌∷◌, ◌++◌, Some, take, slice_get, refl, sym, ap, ◌∙◌, subst}
use Rattle.std.specs.List.{AllZip}
use Rattle.std.proofs.lemmas.List.{take_more}
use Rattle.std.proofs.lemmas.Option.{none-some, same_Some, get_or_from_slice_get, slice_get_within}
use Rattle.indexmap.proofs.SetLemmas.{AllZip-push}

module _ {A B : Type 0} (R : A → B → Type 0) where
  pub zip_at : (xs : List A) (ys : List B) (i : ℕ) (y : B) → AllZip R xs ys → slice_get ys i ≡ Some y → (x : A) × (slice_get xs i ≡ Some x) × R x y
  zip_at [] [] i y all is = absurd (none-some y is)
  zip_at [] (b ∷ ys) i y all is = absurd all
  zip_at (a ∷ xs) [] i y all is = absurd all
  zip_at (a ∷ xs) (b ∷ ys) zero y all is = (a, refl, subst (R a) (same_Some b y is) all.0)
  zip_at (a ∷ xs) (b ∷ ys) (suc i) y all is = zip_at xs ys i y all.1 is

  pub zip_take : (n : ℕ) (xs : List A) (ys : List B) → AllZip R xs ys → AllZip R (take n xs) (take n ys)
  zip_take zero xs ys all = tt
  zip_take (suc n) [] [] all = tt
  zip_take (suc n) [] (b ∷ ys) all = absurd all
  zip_take (suc n) (a ∷ xs) [] all = absurd all
  zip_take (suc n) (a ∷ xs) (b ∷ ys) all = (all.0, zip_take n xs ys all.1)

  -- one item more of both
  pub zip_more : (xs : List A) (i : ℕ) (x : A) → slice_get xs i ≡ Some x → (ys : List B) → AllZip R (take i xs) ys → {new : List B} (y : B) → R x y →
      new ≡ ys ++ y ∷ [] → AllZip R (take (i + 1) xs) new
  zip_more xs i x there ys so_far y tied put =
      let one = take_more xs i x (slice_get_within xs i x there) ∙ ap (λ z. take i xs ++ z ∷ []) (get_or_from_slice_get xs i x x there) in
      subst (λ zs. AllZip R (take (i + 1) xs) zs) (sym put) (subst (λ zs. AllZip R zs (ys ++ y ∷ [])) (sym one) (AllZip-push R (take i xs) ys x y so_far tied))

-- what stands in the front of a list stands there in the list
pub front_item : {A : Type 0} (n : ℕ) (xs : List A) (i : ℕ) (x : A) → slice_get (take n xs) i ≡ Some x → slice_get xs i ≡ Some x
front_item zero xs i x is = absurd (none-some x is)
front_item (suc n) [] i x is = is
front_item (suc n) (y ∷ xs) zero x is = is
front_item (suc n) (y ∷ xs) (suc i) x is = front_item n xs i x is
