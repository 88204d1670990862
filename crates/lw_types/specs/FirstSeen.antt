-- The items of a list, each once, in the order of their first places.
use Rattle.std.specs.Prelude.{List, [], ◌∷◌, Contains}

-- `FirstSeen seen xs ys`: ys are the items of xs that were not seen before, each once
pub data FirstSeen {X : Type 0} : List X → List X → List X → Type 0 where
  none : {seen : List X} → FirstSeen seen [] []
  again : {seen xs ys : List X} {x : X} → Contains seen x → FirstSeen seen xs ys → FirstSeen seen (x ∷ xs) ys
  new : {seen xs ys : List X} {x : X} → ¬ Contains seen x → FirstSeen (x ∷ seen) xs ys → FirstSeen seen (x ∷ xs) (x ∷ ys)
