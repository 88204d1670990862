-- How a name stands among declarations: where its first one is, and how far to the front it is declared at all. By these it is known
-- what a name means that stands in both lists of its space: among rules and terminals, or among interfaces and unions.
use Rattle.std.specs.Prelude.{ℕ, ◌≡◌, ◌+◌, ◌<◌, ◌⊎◌, List, Option, Some, None, Contains, MatchOption, bytes_eq}
use Rattle.std.specs.Map.{lookup}
use Rattle.lw_grammar.specs.Named.{Declaration, IsFirst}
use Rattle.lw_numbers.specs.declared.standing.Place.{Place}
use Rattle.lw_numbers.specs.declared.standing.Standing.{Standing}

-- in a file that was loaded earlier, or further to the front of the same file
abbrev pub IsBefore : Place → Place → Type 0
IsBefore one other = (one.file < other.file) ⊎ ((one.file ≡ other.file) × (one.start < other.start))

abbrev pub declared_place : Declaration → Place
declared_place declaration = record { file = declaration.file; start = declaration.span.start }

-- the standing after one more declaration, at this place
abbrev pub Meets : Place → Standing → Standing → Type 0
Meets place old new =
    (IsBefore place old.earliest × (new ≡ record { number = old.number; place = old.place; earliest = place }))
    ⊎ ((¬ IsBefore place old.earliest) × (new ≡ old))

module _ {X : Type 0} (declared_by : X → Declaration) (first : ℕ) (xs : List X) where
  -- how the name stands among xs, which are numbered from first
  pub record StandsAs (name : List ℕ) (standing : Standing) : Type 0 where
    pub at : ℕ
    pub item : X
    pub is_first : IsFirst (λ x. (declared_by x).name ≡ name) xs at item
    pub number : standing.number ≡ first + at
    pub place : standing.place ≡ declared_place (declared_by item)
    pub soonest : X
    pub among : Contains xs soonest
    pub named : (declared_by soonest).name ≡ name
    pub earliest : standing.earliest ≡ declared_place (declared_by soonest)
    pub none_sooner : (x : X) → Contains xs x → (declared_by x).name ≡ name → ¬ IsBefore (declared_place (declared_by x)) standing.earliest

  -- these entries say of each name how it stands among xs, and of no other
  abbrev pub StandAmong : List (List ℕ × Standing) → Type 0
  StandAmong entries =
      (name : List ℕ) → MatchOption (lookup (bytes_eq name) entries) ((x : X) → Contains xs x → ¬ ((declared_by x).name ≡ name)) (StandsAs name)

-- of a name that stands so in one list of its space and so in the other, the first in the one list stands before all in the other,
-- and this is its number
abbrev pub IsAhead : Option Standing → Option Standing → ℕ → Type 0
IsAhead None other n = ⊥
IsAhead (Some one) None n = one.number ≡ n
IsAhead (Some one) (Some other) n = IsBefore one.place other.earliest × (one.number ≡ n)
