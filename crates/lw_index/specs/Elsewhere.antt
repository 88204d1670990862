-- The names that documents other than one export with a type that is wanted. Held against Langium, "Scoping": the global scope has the
-- descriptions of what documents export, of the types that a reference may lead to. That each name stands once, in the order of its
-- bytes, is this profile's.
use Rattle.std.specs.Prelude.{◌≡◌, ◌≢◌, ◌↔◌, ℕ, List, Contains, AllPairs}
use Rattle.std.specs.Ordering.{nat_cmp}
use Rattle.std.specs.declared.cmp.Ordering.TheVariants.{Less}
use Rattle.std.specs.Cmp.Lexicographic.{slice_cmp}
use Rattle.std.specs.FinSet as set
use Rattle.lw_index.specs.declared.parts.Document.{Document}
use Rattle.lw_index.specs.Indexed.{Indexed}
use Rattle.lw_index.specs.Firsts.{IsWanted}

module _ (index : Indexed) (except : ℕ) (types : set.FinSet nat_cmp) where
  -- another document exports a node by this name, whose type is wanted
  pub record IsElsewhere (name : List ℕ) : Type 0 where
    pub doc : ℕ
    pub document : Document
    pub node : ℕ
    pub another : doc ≢ except
    pub wanted : IsWanted index name types doc document node

  -- these are the names of which that is so, in the order of their bytes, each once
  pub record AreElsewhere (names : List (List ℕ)) : Type 0 where
    pub exact : (name : List ℕ) → Contains names name ↔ IsElsewhere name
    pub ordered : AllPairs (λ one other. slice_cmp nat_cmp one other ≡ Less) names
