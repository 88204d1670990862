-- What one step of an NFA over the front of a text tells of the text with more behind it.
-- Held against the run of an NFA in the library `regex_nfa`: each kind of state, and of two states the first that comes to a match.
use Rattle.std.specs.Prelude.{◌≡◌, ℕ, ◌<◌, ◌≤◌, List, ◌++◌, length, vec_len, Option, Some, None, option_map, ⊤}
use Rattle.std.specs.Option.{option_or}
use Rattle.regex_hir.specs.Re.{Trace, Rest}
use Rattle.regex_nfa.specs.Run.{run}
use Rattle.regex_nfa.specs.declared.nfa.Nfa.{Nfa}
use Rattle.regex_nfa.specs.declared.state.State.{State}
use Rattle.regex_nfa.specs.declared.state.State.TheVariants.{ByteRange, Sparse}
use Rattle.lw_matching.specs.declared.step.Onward.{Onward}

-- where a match ends
abbrev pub match_end : Option Trace → Option ℕ
match_end = option_map (λ t. t.end)

-- what a state gives at a position of the text with more behind it
abbrev pub gives_over : Nfa → List ℕ → List ℕ → ℕ → Rest
gives_over nfa text more = run nfa (text ++ more) (length (text ++ more))

-- a state of the NFA, and a position of the text
pub record IsPair (nfa : Nfa) (text : List ℕ) (q i : ℕ) : Type 0 where
  pub state : q < vec_len nfa.states
  pub at : i ≤ length text

module _ (nfa : Nfa) (text : List ℕ) (q i : ℕ) where
  -- where the state q at i leads to, whatever follows the text
  abbrev pub LeadsOn : Onward → Type 0
  LeadsOn (Onward.Go r j) =
      IsPair nfa text r j × ((more : List ℕ) → match_end (gives_over nfa text more q i) ≡ match_end (gives_over nfa text more r j))
  LeadsOn (Onward.Both r s) =
      IsPair nfa text r i × IsPair nfa text s i
      × ((more : List ℕ) → match_end (gives_over nfa text more q i)
      ≡ option_or (match_end (gives_over nfa text more r i)) (match_end (gives_over nfa text more s i)))
  LeadsOn Onward.Back = (more : List ℕ) → match_end (gives_over nfa text more q i) ≡ None
  LeadsOn Onward.Ends = (more : List ℕ) → match_end (gives_over nfa text more q i) ≡ Some i
  LeadsOn Onward.Unknown = ⊤

-- the state reads a byte
abbrev pub ReadsByte : State → Type 0
ReadsByte (ByteRange t) = ⊤
ReadsByte (Sparse from to) = ⊤
ReadsByte _ = ⊥
