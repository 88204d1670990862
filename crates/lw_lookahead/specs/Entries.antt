-- The heads of ways, each beside its way; what is known of entries, which have each head once; and which ways have a head in common.
use Rattle.std.specs.Prelude.{ℕ, ◌≡◌, ◌+◌, ◌<◌, ◌≤◌, ◌⊎◌, List, [], ◌∷◌, ◌++◌, Option, Some, None, Contains, length, map}
use Rattle.lw_first.specs.declared.heads.head.Head.{Head}
use Rattle.lw_first.specs.Heads.{kinds_in}

-- the heads of a way, and those of ways that are counted from this number
abbrev pub of_way : ℕ → List Head → List (Head × ℕ)
of_way way heads = map (λ head. (head, way)) heads

abbrev pub of_ways : ℕ → List (List Head) → List (Head × ℕ)
of_ways way [] = []
of_ways way (heads ∷ ways) = of_way way heads ++ of_ways (way + 1) ways

-- no head has two ways, and each has at most so many kinds
pub record AreEntries (k : ℕ) (entries : List (Head × ℕ)) : Type 0 where
  pub once : (head : Head) (way other : ℕ) → Contains entries (head, way) → Contains entries (head, other) → way ≡ other
  pub short : (head : Head) (way : ℕ) → Contains entries (head, way) → length (kinds_in head) ≤ k

-- both ways have the head
abbrev pub IsOfBoth : List (Head × ℕ) → ℕ → ℕ → Head → Type 0
IsOfBoth pairs way other head = Contains pairs (head, way) × Contains pairs (head, other)

-- the one pair of ways is the other or stands in front of it
abbrev pub IsNoLaterPair : ℕ × ℕ → ℕ → ℕ → Type 0
IsNoLaterPair pair way other = (pair.0 < way) ⊎ ((pair.0 ≡ way) × (pair.1 ≤ other))

-- `pairs` are heads, each beside a way that has it
module _ (pairs : List (Head × ℕ)) where
  -- for each head the first way that has it
  pub record AreFirstWays (entries : List (Head × ℕ)) : Type 0 where
    pub no_others : (head : Head) (way : ℕ) → Contains entries (head, way) → Contains pairs (head, way)
    pub first : (head : Head) (way other : ℕ) → Contains entries (head, way) → Contains pairs (head, other) → way ≤ other
    pub all : (head : Head) (way : ℕ) → Contains pairs (head, way) → (first : ℕ) × Contains entries (head, first)

  -- two ways that have a head in common, and no two such ways stand in front of them
  pub record IsLeastPair (pair : ℕ × ℕ) : Type 0 where
    pub ascending : pair.0 < pair.1
    pub head : Head
    pub of_both : IsOfBoth pairs pair.0 pair.1 head
    pub least : (way other : ℕ) (h : Head) → way < other → IsOfBoth pairs way other h → IsNoLaterPair pair way other

  -- the least pair of ways that have a head in common, where there is one
  abbrev pub IsLeastPairOf : Option (ℕ × ℕ) → Type 0
  IsLeastPairOf None = (way other : ℕ) (head : Head) → IsOfBoth pairs way other head → way ≡ other
  IsLeastPairOf (Some pair) = IsLeastPair pair

-- no way stands behind this one
abbrev pub AreUpTo : ℕ → List (Head × ℕ) → Type 0
AreUpTo way pairs = (head : Head) (other : ℕ) → Contains pairs (head, other) → other ≤ way
