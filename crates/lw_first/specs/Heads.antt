-- The kinds that a head has, and what a parser sees of them.
use Rattle.std.specs.Prelude.{ℕ, List, [], ◌∷◌, Option, Some, None, map}
use Rattle.std.specs.Option.{option_map}
use Rattle.lw_base.specs.declared.numbers.KindId.{KindId}
use Rattle.lw_first.specs.declared.heads.head.Head.{Head}
use Rattle.lw_first.specs.declared.heads.head.Head.TheVariants.{Nothing, One, Two, Three}

-- their numbers, the first first
abbrev pub kinds_in : Head → List ℕ
kinds_in Nothing = []
kinds_in (One a) = a.0 ∷ []
kinds_in (Two a b) = a.0 ∷ b.0 ∷ []
kinds_in (Three a b c) = a.0 ∷ b.0 ∷ c.0 ∷ []

-- the numbers of the kinds in a window
abbrev pub seen_in : List (Option KindId) → List (Option ℕ)
seen_in = map (option_map (λ kind. kind.0))

-- the kinds of a window in which, before these kinds, this is seen: none, where a kind stands behind an end mark
abbrev pub put_before : Option ℕ → List ℕ → Option (List ℕ)
put_before (Some n) ks = Some (n ∷ ks)
put_before None [] = Some []
put_before None (n ∷ ks) = None
