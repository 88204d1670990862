-- At which address a document stands that an index knows by its number, and which nodes give names to what fits.
-- Held against Langium, "Scoping": the scopes of a reference, from its node outwards, each of which has the descriptions of what is visible there.
use Rattle.std.specs.Prelude.{ℕ, ◌≡◌, ◌↔◌, List, Some, true}
use Rattle.std.specs.FinMap.{get}
use Rattle.std.specs.FinSet.{FinSet, contains}
use Rattle.std.specs.Ordering.{nat_cmp}
use Rattle.lw_scoping.specs.Symbols.{IsNamedOf}
use Rattle.lw_tree.specs.Parts.{Parts}
use Rattle.lw_index.specs.declared.parts.Document.{Document}
use Rattle.lw_index.specs.Indexed.{Indexed}

-- of the documents that the index holds, exactly the one of this number, where it is held, stands at the address
abbrev pub IsNumberAt : Indexed → ℕ → List ℕ → Type 0
IsNumberAt index doc address = (other : ℕ) (d : Document) → get index other ≡ Some d → (d.uri ≡ address) ↔ (other ≡ doc)

-- the node is called so and has a type of the set
abbrev pub IsNameOf : Parts → FinSet nat_cmp → ℕ → List ℕ → Type 0
IsNameOf tree fits n name = IsNamedOf tree name (λ type. contains fits type ≡ true) n
