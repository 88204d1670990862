-- Values whose compact text (RFC 8259) reads back as them.
use Rattle.std.specs.Prelude.{◌≡◌, ℕ, List, [], ◌∷◌, Some, ⊤}
use Rattle.json.specs.Tree.{HasNumbers}
use Rattle.serde_json.specs.Data.{Data}
use Rattle.serde_json.specs.Read.{of_json}
use Rattle.serde_json.specs.Written.{outline}

-- The value is what its text is read as: its whole numbers fit 64 bits, and its objects have their keys in order, each once.
pub record ReadsBack (value : Data) : Type 0 where
  pub same : of_json (outline value) ≡ Some value
  pub numbers : HasNumbers (outline value)

-- each of these members has such a value
abbrev pub AllReadBack : List (List ℕ × Data) → Type 0
AllReadBack [] = ⊤
AllReadBack (m ∷ others) = ReadsBack m.1 × AllReadBack others
