-- The states of an automaton in the order of their ranks: each stands behind those that it leads to without a byte.
use Rattle.std.specs.Prelude.{◌≡◌, ℕ, ◌<◌, List, vec_len, slice_index, All, Contains}
use Rattle.std.specs.List.Sorted.{IsNonDecreasingBy}
use Rattle.regex_nfa.specs.declared.nfa.Nfa.{Nfa}
use Rattle.lw_matching.specs.declared.lengths.order.Ranked.{Ranked}

-- the state with its rank
abbrev pub ranked : Nfa → ℕ → Ranked
ranked nfa q = record { rank = slice_index nfa.ranks.items q; state = q }

abbrev pub IsRanked : Nfa → Ranked → Type 0
IsRanked nfa one = (one.state < vec_len nfa.states) × (one ≡ ranked nfa one.state)

-- these are all states with their ranks
pub record AreRanked (nfa : Nfa) (list : List Ranked) : Type 0 where
  pub complete : (q : ℕ) → q < vec_len nfa.states → Contains list (ranked nfa q)
  pub each : All (IsRanked nfa) list

pub record IsOrder (nfa : Nfa) (order : List Ranked) : Type 0 where
  pub ranked : AreRanked nfa order
  pub rises : IsNonDecreasingBy (λ r. r.rank) order
