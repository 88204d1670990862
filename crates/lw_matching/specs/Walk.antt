-- What a walk over the front of a text comes to.
-- Held against the documentation of the crate `regex`, leftmost-first matching: the ways of a pattern are tried in order,
-- and the first that works is the match.
use Rattle.std.specs.Prelude.{◌≡◌, ℕ, List, [], ◌∷◌, ◌++◌, Option, None, All}
use Rattle.std.specs.Option.{option_or}
use Rattle.regex_hir.specs.Re.{Re, Rest}
use Rattle.regex_nfa.specs.declared.nfa.Nfa.{Nfa}
use Rattle.lw_tokens.specs.Matching.{match_at_start}
use Rattle.lw_matching.specs.Steps.{match_end, gives_over, IsPair}
use Rattle.lw_matching.specs.declared.walk.Way.{Way}

-- what the ways give that are left to try, the last first
abbrev pub left_over : (ℕ → Rest) → List Way → Option ℕ
left_over go [] = None
left_over go (w ∷ ws) = option_or (left_over go ws) (match_end (go w.state w.at))

abbrev pub IsWay : Nfa → List ℕ → Way → Type 0
IsWay nfa text w = IsPair nfa text w.state w.at

-- where the NFA's match at the start of the text ends, if it has one, whatever follows the text
abbrev pub EndStays : Nfa → List ℕ → Option ℕ → Type 0
EndStays nfa text end = (more : List ℕ) → match_end (gives_over nfa text more nfa.start 0) ≡ end

-- how many bytes the pattern matches at the start of the text, whatever follows it
abbrev pub MatchStays : Re → List ℕ → Option ℕ → Type 0
MatchStays re text bytes = (more : List ℕ) → match_at_start re (text ++ more) ≡ bytes

-- the state q at i is tried next and then these ways, and what comes of that is the NFA's match at the start
pub record Tracking (nfa : Nfa) (text : List ℕ) (q i : ℕ) (ways : List Way) : Type 0 where
  pub pair : IsPair nfa text q i
  pub ways_in : All (IsWay nfa text) ways
  pub comes : (more : List ℕ) → match_end (gives_over nfa text more nfa.start 0)
      ≡ option_or (match_end (gives_over nfa text more q i)) (left_over (gives_over nfa text more) ways)
