-- One more in a row.
use Rattle.std.proofs.Common.{ℕ, ◌≡◌, ◌+◌, ◌<◌, List, [], ◌∷◌, ◌++◌, length, map, take, get_or, sym, ap, subst, ◌∙◌}
use Rattle.std.specs.List.{AllZip}
use Rattle.std.proofs.lemmas.List.{map-append, take_more}

module _ {A B : Type 0} (R : A → B → Type 0) where
  pub zip_push : (xs : List A) (ys : List B) (x : A) (y : B) → AllZip R xs ys → R x y → AllZip R (xs ++ x ∷ []) (ys ++ y ∷ [])
  zip_push [] [] x y all one = (one, tt)
  zip_push [] (v ∷ ys) x y all one = absurd all
  zip_push (u ∷ xs) [] x y all one = absurd all
  zip_push (u ∷ xs) (v ∷ ys) x y all one = (all.0, zip_push xs ys x y all.1 one)

  pub zip_more : (xs : List A) (ys : List B) (i : ℕ) (x : A) (y : B) → i < length xs → x ≡ get_or xs i x → AllZip R (take i xs) ys → R x y →
      AllZip R (take (i + 1) xs) (ys ++ y ∷ [])
  zip_more xs ys i x y inside at all one =
      subst (λ (zs : List A). AllZip R zs (ys ++ y ∷ [])) (sym (take_more xs i x inside))
      (subst (λ (z : A). AllZip R (take i xs ++ z ∷ []) (ys ++ y ∷ [])) at (zip_push (take i xs) ys x y all one))

  pub mapped_more : {C : Type 0} (f : C → B) (xs : List A) (ys after : List C) (i : ℕ) (x : A) (y : C) → i < length xs → x ≡ get_or xs i x → after ≡ ys ++ y ∷ [] →
      AllZip R (take i xs) (map f ys) → R x (f y) → AllZip R (take (i + 1) xs) (map f after)
  mapped_more f xs ys after i x y inside at pushed all one =
      subst (λ (zs : List B). AllZip R (take (i + 1) xs) zs) (sym (ap (map f) pushed ∙ map-append f ys (y ∷ [])))
      (zip_more xs (map f ys) i x (f y) inside at all one)
