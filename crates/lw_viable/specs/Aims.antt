-- What is read towards: the marks that make a whole, and the kinds that begin one or are all of one.
use Rattle.std.specs.Prelude.{ℕ, ◌≡◌, List, ◌++◌}
use Rattle.lw_grammar.specs.declared.grammar.Grammar.{Grammar}
use Rattle.lw_grammar.specs.Kinds.{Kinds}
use Rattle.lw_grammar.specs.Marks.{Mark, kinds_of}
use Rattle.lw_grammar.specs.Sentences.{IsSentence}
use Rattle.lw_program.specs.Says.{Task}
use Rattle.lw_viable.specs.Gives.{PlacesGive}

-- a sentence, or what these places give, one after another
pub data Aim : Type 0 where
  Sentence : Aim
  Places : List ℕ → Aim

-- the marks are a whole, where these tasks stand at the places
abbrev pub Fulfils : Grammar → Kinds → List Task → Aim → List Mark → Type 0
Fulfils g kinds tasks Sentence m = IsSentence g kinds m
Fulfils g kinds tasks (Places places) m = PlacesGive g kinds tasks places m

-- some whole's tokens have exactly these kinds
abbrev pub EndsSome : (List Mark → Type 0) → List ℕ → Type 0
EndsSome Whole ks = (m : List Mark) × Whole m × (kinds_of m ≡ ks)

-- some whole's tokens begin with these kinds
abbrev pub BeginsSome : (List Mark → Type 0) → List ℕ → Type 0
BeginsSome Whole ks = (ls : List ℕ) × EndsSome Whole (ks ++ ls)
