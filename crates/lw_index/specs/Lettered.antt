-- An index for tests, whose documents have a letter each as URI: z for number 0, and so on down to a for number 25.
use Rattle.std.specs.Prelude.{◌≡◌, ◌-◌, ◌<◌, ℕ, [], ◌∷◌, Some}
use Rattle.std.specs.FinMap as map
use Rattle.lw_index.specs.declared.parts.Document.{Document}
use Rattle.lw_index.specs.Indexed.{Indexed}

abbrev pub IsLettered : Indexed → Type 0
IsLettered index = (other : ℕ) (d : Document) → map.get index other ≡ Some d → (other < 26) × (d.uri ≡ (122 - other) ∷ [])
