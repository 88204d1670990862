-- The items at the places that pass, one more after the other, and where they stand.
use Rattle.std.proofs.Common.{◌≡◌, ℕ, suc, ◌+◌, ◌<◌, List, [], ◌∷◌, ◌++◌, Some, length, take, slice_get, refl, sym, ap, ◌∙◌, subst, arith}
use Rattle.std.proofs.lemmas.List.{take_more, length-take-le}
use Rattle.std.proofs.lemmas.Option.{slice_get_within, get_or_from_slice_get}
use Rattle.lw_grammar.specs.Kept.{KeepsPassingFrom, KeepsPassing}
use Rattle.lw_grammar.specs.Kept as keep

module _ {X : Type 0} (passes : ℕ → Type 0) where
  keep_behind : (x : X) {i : ℕ} {xs ys : List X} → KeepsPassingFrom passes i xs ys → passes (i + length xs) → KeepsPassingFrom passes i (xs ++ x ∷ []) (ys ++ x ∷ [])
  keep_behind x {i} keep.nothing does = keep.kept (subst passes (omega arith) does) keep.nothing
  keep_behind x {i} (keep.kept {xs} p rest) does = keep.kept p (keep_behind x rest (subst passes (omega arith) does))
  keep_behind x {i} (keep.left_out {xs} p rest) does = keep.left_out p (keep_behind x rest (subst passes (omega arith) does))

  leave_behind : (x : X) {i : ℕ} {xs ys : List X} → KeepsPassingFrom passes i xs ys → ¬ passes (i + length xs) → KeepsPassingFrom passes i (xs ++ x ∷ []) ys
  leave_behind x {i} keep.nothing lacks = keep.left_out (λ p. lacks (subst passes (omega arith) p)) keep.nothing
  leave_behind x {i} (keep.kept {xs} p rest) lacks = keep.kept p (leave_behind x rest (λ q. lacks (subst passes (omega arith) q)))
  leave_behind x {i} (keep.left_out {xs} p rest) lacks = keep.left_out p (leave_behind x rest (λ q. lacks (subst passes (omega arith) q)))

  module _ (xs ys : List X) (i : ℕ) (x : X) (there : slice_get xs i ≡ Some x) where
    inside : i < length xs
    inside = slice_get_within xs i x there

    next : take (i + 1) xs ≡ take i xs ++ x ∷ []
    next = take_more xs i x inside ∙ ap (λ y. take i xs ++ y ∷ []) (get_or_from_slice_get xs i x x there)

    place : 0 + length (take i xs) ≡ i
    place = omega (arith, length-take-le i xs (omega (arith, inside)))

    pub keep_next : passes i → KeepsPassing passes (take i xs) ys → KeepsPassing passes (take (i + 1) xs) (ys ++ x ∷ [])
    keep_next does keeps =
        subst (λ zs. KeepsPassing passes zs (ys ++ x ∷ [])) (sym next) (keep_behind x keeps (subst passes (sym place) does))

    pub leave_next : ¬ passes i → KeepsPassing passes (take i xs) ys → KeepsPassing passes (take (i + 1) xs) ys
    leave_next lacks keeps = subst (λ zs. KeepsPassing passes zs ys) (sym next) (leave_behind x keeps (λ p. lacks (subst passes place p)))

module _ {X : Type 0} {passes was : ℕ → Type 0} where
  -- the same items are kept where the same places pass
  pub keeps_same : {i : ℕ} {xs ys : List X} → ((k : ℕ) (x : X) → slice_get xs k ≡ Some x → passes (i + k) → was (i + k)) →
      ((k : ℕ) (x : X) → slice_get xs k ≡ Some x → was (i + k) → passes (i + k)) → KeepsPassingFrom passes i xs ys → KeepsPassingFrom was i xs ys
  keeps_same {i} forth back keep.nothing = keep.nothing
  keeps_same {i} forth back (keep.kept {x} p rest) =
      keep.kept (subst was (omega arith) (forth 0 x refl (subst passes (omega arith) p)))
      (keeps_same (λ k y at q. subst was (omega arith) (forth (suc k) y at (subst passes (omega arith) q)))
      (λ k y at q. subst passes (omega arith) (back (suc k) y at (subst was (omega arith) q))) rest)
  keeps_same {i} forth back (keep.left_out {x} p rest) =
      keep.left_out (λ q. p (subst passes (omega arith) (back 0 x refl (subst was (omega arith) q))))
      (keeps_same (λ k y at q. subst was (omega arith) (forth (suc k) y at (subst passes (omega arith) q)))
      (λ k y at q. subst passes (omega arith) (back (suc k) y at (subst was (omega arith) q))) rest)
