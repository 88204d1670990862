-- How a window is printed: the texts of its kinds, joined by one space, where the end is `<end>`.
use Rattle.std.specs.Prelude.{ℕ, List, [], ◌∷◌, ◌++◌, Option, Some, None, codes, slice_index_or}
use Rattle.std.specs.List.{flat_map}

module _ (texts : List (List ℕ)) where
  abbrev pub shown : Option ℕ → List ℕ
  shown None = codes "<end>"
  shown (Some kind) = slice_index_or texts kind []

  abbrev pub window_text : List (Option ℕ) → List ℕ
  window_text [] = []
  window_text (x ∷ []) = shown x
  window_text (x ∷ y ∷ xs) = shown x ++ (codes " " ++ window_text (y ∷ xs))

  -- each behind a space
  abbrev pub spaced : List (Option ℕ) → List ℕ
  spaced = flat_map (λ x. codes " " ++ shown x)
