-- Lists that are related element by element.
use Rattle.std.proofs.Common.{◌≡◌, ◌≢◌, ◌+◌, ℕ, zero, suc, List, [], ◌∷◌, ◌++◌, Some, length, slice_get, refl, subst, ap, arith}
use Rattle.std.specs.List.{AllZip}
use Rattle.std.proofs.lemmas.Option.{none-some, same_Some}
use Rattle.lw_tree.specs.declared.node.Reference.{Reference}
use Rattle.lw_substitution.specs.OneName.{IsAlikeReference, name_looked_up}

pub zip_append : {X Y : Type 0} (R : X → Y → Type 0) (xs zs : List X) (ys ws : List Y) → AllZip R xs ys → AllZip R zs ws → AllZip R (xs ++ zs) (ys ++ ws)
zip_append R [] zs [] ws first others = others
zip_append R [] zs (y ∷ ys) ws first others = absurd first
zip_append R (x ∷ xs) zs [] ws first others = absurd first
zip_append R (x ∷ xs) zs (y ∷ ys) ws first others = (first.0, zip_append R xs zs ys ws first.1 others)

pub zip_at : {X Y : Type 0} (R : X → Y → Type 0) (xs : List X) (ys : List Y) → AllZip R xs ys → (i : ℕ) (x : X) (y : Y) → slice_get xs i ≡ Some x →
    slice_get ys i ≡ Some y → R x y
zip_at R [] ys all i x y at too = absurd (none-some x at)
zip_at R (z ∷ xs) [] all i x y at too = absurd all
zip_at R (z ∷ xs) (w ∷ ys) all zero x y at too = subst (λ a. R a y) (same_Some z x at) (subst (λ b. R z b) (same_Some w y too) all.0)
zip_at R (z ∷ xs) (w ∷ ys) all (suc i) x y at too = zip_at R xs ys all.1 i x y at too

-- references that are alike one by one and named alike but at one place, where the first of the list is counted as the number given
module _ (place : ℕ) where
  abbrev pub RefsAlike : ℕ → List Reference → List Reference → Type 0
  RefsAlike from [] [] = Unit {0}
  RefsAlike from [] (s ∷ ss) = ⊥
  RefsAlike from (r ∷ rs) [] = ⊥
  RefsAlike from (r ∷ rs) (s ∷ ss) = IsAlikeReference r s × (from ≢ place → r.name ≡ s.name) × RefsAlike (from + 1) rs ss

  pub refs_append : (from next : ℕ) (xs zs ys ws : List Reference) → from + length xs ≡ next → RefsAlike from xs ys → RefsAlike next zs ws →
      RefsAlike from (xs ++ zs) (ys ++ ws)
  refs_append from next [] zs [] ws count first others = subst (λ (n : ℕ). RefsAlike n zs ws) (let same : next ≡ from = omega (arith, count) in same) others
  refs_append from next [] zs (y ∷ ys) ws count first others = absurd first
  refs_append from next (x ∷ xs) zs [] ws count first others = absurd first
  refs_append from next (x ∷ xs) zs (y ∷ ys) ws count first others =
      (first.0, first.1, refs_append (from + 1) next xs zs ys ws (omega (arith, count)) first.2 others)

  pub refs_zip : (from : ℕ) (rs ss : List Reference) → RefsAlike from rs ss → AllZip IsAlikeReference rs ss
  refs_zip from [] [] like = tt
  refs_zip from [] (s ∷ ss) like = absurd like
  refs_zip from (r ∷ rs) [] like = absurd like
  refs_zip from (r ∷ rs) (s ∷ ss) like = (like.0, refs_zip (from + 1) rs ss like.2)

  pub refs_named : (from : ℕ) (rs ss : List Reference) → RefsAlike from rs ss → (i : ℕ) → from + i ≢ place →
      name_looked_up (slice_get rs i) ≡ name_looked_up (slice_get ss i)
  refs_named from [] [] like i apart = refl
  refs_named from [] (s ∷ ss) like i apart = absurd like
  refs_named from (r ∷ rs) [] like i apart = absurd like
  refs_named from (r ∷ rs) (s ∷ ss) like zero apart = ap (λ (name : List ℕ). Some name) (like.1 (λ is. apart (omega (arith, is))))
  refs_named from (r ∷ rs) (s ∷ ss) like (suc i) apart = refs_named (from + 1) rs ss like.2 i (λ is. apart (omega (arith, is)))
