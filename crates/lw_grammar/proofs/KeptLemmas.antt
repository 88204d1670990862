-- The items at the places that pass: they are settled, and each is one of the list.
use Rattle.std.proofs.Common.{◌≡◌, ℕ, zero, suc, List, ◌∷◌, Contains, refl, ap, arith}
use Rattle.lw_base.proofs.Lists.{there}
use Rattle.lw_grammar.specs.Kept.{KeepsPassingFrom}
use Rattle.lw_grammar.specs.Kept as keep

module _ {X : Type 0} (passes : ℕ → Type 0) where
  pub kept_once : {i : ℕ} {xs ys zs : List X} → KeepsPassingFrom passes i xs ys → KeepsPassingFrom passes i xs zs → ys ≡ zs
  kept_once keep.nothing keep.nothing = refl
  kept_once (keep.kept {x} p k) (keep.kept q l) = ap (λ ys. x ∷ ys) (kept_once k l)
  kept_once (keep.kept p k) (keep.left_out q l) = absurd (q p)
  kept_once (keep.left_out p k) (keep.kept q l) = absurd (p q)
  kept_once (keep.left_out p k) (keep.left_out q l) = kept_once k l

  pub kept_from : (y : X) {i : ℕ} {xs ys : List X} → KeepsPassingFrom passes i xs ys → Contains ys y → Contains xs y
  kept_from y keep.nothing has = has
  kept_from y (keep.kept p rest) (zero, inside, is) = (0, omega arith, is)
  kept_from y (keep.kept {x} {xs} p rest) (suc k, inside, is) = there x xs y (kept_from y rest (k, omega arith, is))
  kept_from y (keep.left_out {x} {xs} p rest) has = there x xs y (kept_from y rest has)
