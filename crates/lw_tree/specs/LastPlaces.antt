-- Where the names of nodes stand among the values of all nodes: that of a node is the last value of its property `name`.
use Rattle.std.specs.Prelude.{ℕ, zero, suc, Bool, ◌==◌, ◌&&◌, Option, Some, None, List, [], ◌∷◌, map, if◌then◌else◌}
use Rattle.std.specs.List.{range_with_len}
use Rattle.std.specs.Option.{option_map, option_or}
use Rattle.lw_base.specs.declared.numbers.PropId.{PropId}

abbrev pub is_same_key : ℕ × ℕ → ℕ × ℕ → Bool
is_same_key wanted key = (key.0 == wanted.0) && (key.1 == wanted.1)

-- the last place of a key, if it stands there at all
abbrev pub last_place : ℕ × ℕ → List (ℕ × ℕ) → Option ℕ
last_place wanted [] = None
last_place wanted (key ∷ keys) = option_or (option_map suc (last_place wanted keys)) (if is_same_key wanted key then Some 0 else None)

abbrev pub Places : Type 0
Places = List (Option ℕ)

-- by node, for so many nodes; no places where the grammar has no property `name`
abbrev pub name_places : Option PropId → ℕ → List (ℕ × ℕ) → Places
name_places None count keys = []
name_places (Some p) count keys = map (λ n. last_place (n, p.0) keys) (range_with_len 0 count)

-- the place before this one: zero has none
abbrev pub place_before : ℕ → Option ℕ
place_before zero = None
place_before (suc n) = Some n
