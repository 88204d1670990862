-- Where the matches of an automaton end that go on from its states at one place of a text.
-- Held against the run of an NFA in the library `regex_nfa`. A search begins somewhere in the text, and the states of a place see of what
-- stands before it only whether the search begins there: for that `\A` may be the only assertion.
use Rattle.std.specs.Prelude.{◌≡◌, ℕ, ◌+◌, ◌<◌, ◌≤◌, ◌==◌, Bool, false, List, Option, None, length, drop, vec_len, option_map}
use Rattle.std.specs.List.{slice_index_or}
use Rattle.regex_hir.specs.declared.look.Look as the_look
use Rattle.regex_nfa.specs.Run.{run, state_of}
use Rattle.regex_nfa.specs.declared.nfa.Nfa.{Nfa}
use Rattle.regex_nfa.specs.declared.state.State.TheVariants.{Look}
use Rattle.lw_base.specs.declared.limits.TheConstants.{LONGEST_TEXT}
use Rattle.lw_matching.specs.Steps.{match_end}
use Rattle.lw_matching.specs.declared.lengths.row.Place.{Place}

-- the only assertion of the automaton is that of the start
abbrev pub AsksForStart : Nfa → Type 0
AsksForStart nfa = (q : ℕ) (look : the_look.Look) (next : ℕ) → state_of nfa q ≡ Look look next → look ≡ the_look.Look.Start

-- where the first match ends that goes on from the state q at i
abbrev pub end_from : Nfa → List ℕ → ℕ → ℕ → Option ℕ
end_from nfa hay q i = match_end (run nfa hay (length hay) q i)

module _ (nfa : Nfa) (text : List ℕ) (p : ℕ) (starts : Bool) where
  -- whatever part of the text is searched that has the place p at i: from the state q the first match ends at this place of the text
  abbrev pub IsEndFrom : ℕ → Option ℕ → Type 0
  IsEndFrom q end = (hay : List ℕ) (i : ℕ) → (i == 0) ≡ starts → i ≤ length hay → drop i hay ≡ drop p text →
      option_map (λ e. e + p) (end_from nfa hay q i) ≡ option_map (λ e. e + i) end

  -- so it is for each state
  abbrev pub IsRow : List (Option ℕ) → Type 0
  IsRow row = (q : ℕ) → q < vec_len nfa.states → IsEndFrom q (slice_index_or row q None)

-- a place of a text, where the row of the place behind it is known
pub record IsPlace (place : Place) : Type 0 where
  pub looks : AsksForStart place.nfa.now
  pub within : place.at ≤ length place.text.now
  pub fits : length place.text.now ≤ LONGEST_TEXT
  pub count : length place.behind.now ≡ vec_len place.nfa.now.states
  pub behind : place.at < length place.text.now → IsRow place.nfa.now place.text.now (place.at + 1) false place.behind.now
