-- The items of a list at the places that pass.
use Rattle.std.specs.Prelude.{ℕ, ◌+◌, List, [], ◌∷◌}

module _ {X : Type 0} (passes : ℕ → Type 0) where
  -- ys are the items of xs at the places that pass, where the first item of xs has the place i
  pub data KeepsPassingFrom : ℕ → List X → List X → Type 0 where
    nothing : {i : ℕ} → KeepsPassingFrom i [] []
    kept : {i : ℕ} {x : X} {xs ys : List X} → passes i → KeepsPassingFrom (i + 1) xs ys → KeepsPassingFrom i (x ∷ xs) (x ∷ ys)
    left_out : {i : ℕ} {x : X} {xs ys : List X} → ¬ passes i → KeepsPassingFrom (i + 1) xs ys → KeepsPassingFrom i (x ∷ xs) ys

  abbrev pub KeepsPassing : List X → List X → Type 0
  KeepsPassing = KeepsPassingFrom 0
