-- The automata of terminals, and what is known of their matches in one text.
use Rattle.std.specs.Prelude.{ℕ, ◌≡◌, List, Some, drop, slice_get, IsCharBoundary}
use Rattle.regex_nfa.specs.declared.nfa.Nfa.{Nfa}
use Rattle.lw_matching.specs.Nfas.{IsNfaOf}
use Rattle.lw_tokens.specs.Lexicon.{TerminalForm}
use Rattle.lw_matching.specs.Known.{Tried}

-- as far as there are automata each is that of the terminal in its turn
abbrev pub AreInTurn : List TerminalForm → List Nfa → Type 0
AreInTurn terminals nfas =
    (j : ℕ) (form : TerminalForm) (nfa : Nfa) → slice_get terminals j ≡ Some form → slice_get nfas j ≡ Some nfa → IsNfaOf form.pattern nfa

-- it is known of this terminal in this text
pub record IsKnownIn (text : List ℕ) (form : TerminalForm) (known : Tried) : Type 0 where
  pub pattern : known.pattern ≡ form.pattern
  pub of_text : known.text ≡ text

-- as far as something is known it is of the terminal in its turn
abbrev pub AreKnownIn : List TerminalForm → List ℕ → List Tried → Type 0
AreKnownIn terminals text known =
    (j : ℕ) (form : TerminalForm) (one : Tried) → slice_get terminals j ≡ Some form → slice_get known j ≡ Some one → IsKnownIn text form one

-- it is known of this terminal in a text of which this is the rest from a place on
pub record IsKnownAt (left : List ℕ) (at : ℕ) (form : TerminalForm) (known : Tried) : Type 0 where
  pub pattern : known.pattern ≡ form.pattern
  pub cut : IsCharBoundary known.text at
  pub rest : drop at known.text ≡ left

abbrev pub AreKnownAt : List TerminalForm → List ℕ → ℕ → List Tried → Type 0
AreKnownAt terminals rest at known =
    (j : ℕ) (form : TerminalForm) (one : Tried) → slice_get terminals j ≡ Some form → slice_get known j ≡ Some one → IsKnownAt rest at form one
