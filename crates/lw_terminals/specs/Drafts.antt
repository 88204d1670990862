-- A text that grows, in words of the code: what is known of it, and what is put in behind what stands there.
use Rattle.std.specs.Prelude.{ℕ, ◌≡◌, ◌≤◌, List, ◌++◌, codes, length, string_bytes}
use Rattle.lw_terminals.specs.declared.patterns.draft.Draft.{Draft}
use Rattle.lw_terminals.specs.declared.patterns.written.TheConstants.{LONGEST_PATTERN}
use Rattle.lw_terminals.specs.WrittenPatterns.{measured}

-- p was written: its length is known, and it is held where it is short
pub record IsDraftOf (draft : Draft) (p : List ℕ) : Type 0 where
  pub bytes : draft.bytes ≡ measured p
  pub text : length p ≤ LONGEST_PATTERN → string_bytes draft.text ≡ p

-- p was put in behind what stood there
abbrev pub PutsText : List ℕ → Draft → Draft → Type 0
PutsText p old new = (before : List ℕ) → IsDraftOf old before → IsDraftOf new (before ++ p)

-- some text was put in of which this holds
abbrev pub Writes : (List ℕ → Type 0) → Draft → Draft → Type 0
Writes P old new = (p : List ℕ) × P p × PutsText p old new

-- a text of which this holds, behind the beginning of a group that captures nothing, and then the end
abbrev pub IsGrouped : (List ℕ → Type 0) → List ℕ → List ℕ → Type 0
IsGrouped P end p = (q : List ℕ) × P q × (p ≡ codes "(?:" ++ q ++ end)
