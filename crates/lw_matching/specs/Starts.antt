-- How many bytes an automaton's match takes at each place of a text, where a search begins there.
use Rattle.std.specs.Prelude.{◌≡◌, ℕ, ◌+◌, ◌≤◌, List, Option, Some, length, drop, slice_get}
use Rattle.regex_nfa.specs.declared.nfa.Nfa.{Nfa}
use Rattle.lw_matching.specs.Rows.{end_from}

pub record AreStartLengths (nfa : Nfa) (text : List ℕ) (lengths : List (Option ℕ)) : Type 0 where
  pub count : length lengths ≡ length text + 1
  pub each : (at : ℕ) → at ≤ length text → slice_get lengths at ≡ Some (end_from nfa (drop at text) nfa.start 0)
