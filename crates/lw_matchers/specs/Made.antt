-- What a set of tokens is made from, and why it is not made.
use Rattle.std.specs.Prelude.{ℕ, ◌≡◌, ◌≢◌, List, [], ◌++◌, map, take, All, Contains, Option, Some, IsSome, Result, Ok, Err, slice_get}
use Rattle.lw_grammar.specs.KindTexts.{quoted}
use Rattle.lw_io.specs.Causes.{Faulted}
use Rattle.lw_tokens.specs.Lexicon.{TerminalForm}
use Rattle.lw_io.specs.Patterns.{anchored}
use Rattle.lw_tokens.specs.Matching.{pattern_of, match_length}
use Rattle.lw_matchers.specs.TokenKinds.{TokenKinds}
use Rattle.lw_matchers.specs.declared.source.TerminalSource.{TerminalSource}
use Rattle.lw_matchers.specs.declared.fault.MakeTokensFault.{MakeTokensFault}
use Rattle.lw_matchers.specs.declared.fault.MakeTokensFault.TheVariants.{Refused, EmptyMatch, NoMemory}

abbrev pub form_of : TerminalSource → TerminalForm
form_of source = record { pattern = source.pattern; hidden = source.hidden }

-- the kinds of tokens of these keywords and terminals
abbrev pub token_kinds_of : List (List ℕ) → List TerminalSource → TokenKinds
token_kinds_of keywords terminals = record {
  lexicon = record { keywords = keywords; terminals = map form_of terminals };
  texts = map quoted keywords ++ map (λ terminal. terminal.name) terminals;
}

-- the text can be read as a pattern, and does not match the empty text
pub record IsUsable (pattern : List ℕ) : Type 0 where
  pub readable : IsSome (pattern_of (anchored pattern))
  pub not_empty : match_length pattern [] ≢ Some 0

abbrev pub AreUsable : List TerminalSource → Type 0
AreUsable terminals = All (λ terminal. IsUsable terminal.pattern) terminals

module _ (listed : List (List ℕ)) where
  -- none of these patterns is one that the maker lists, and so refuses
  abbrev pub AreUnlisted : List TerminalSource → Type 0
  AreUnlisted terminals = All (λ terminal. ¬ Contains listed terminal.pattern) terminals

  -- the terminal at the place i is this, and the patterns of those before it are usable and not listed
  pub record IsTriedAt (terminals : List TerminalSource) (i : ℕ) (terminal : TerminalSource) : Type 0 where
    pub there : slice_get terminals i ≡ Some terminal
    pub before : AreUsable (take i terminals)
    pub unlisted : AreUnlisted (take i terminals)

  -- the pattern last refused is that of the terminal at the place i
  pub record IsRefusedAt (terminals : List TerminalSource) (last_refused : Option (List ℕ)) (i : ℕ) : Type 0 where
    pub terminal : TerminalSource
    pub tried : IsTriedAt terminals i terminal
    pub refused : last_refused ≡ Some terminal.pattern

  -- the terminal at the place i is the first whose pattern matches the empty text, and it is not listed either
  pub record MatchesEmptyAt (terminals : List TerminalSource) (i : ℕ) : Type 0 where
    pub terminal : TerminalSource
    pub tried : IsTriedAt terminals i terminal
    pub matches_empty : match_length terminal.pattern [] ≡ Some 0
    pub not_listed : ¬ Contains listed terminal.pattern

-- the count of refusals rises at `Refused`, and stands still at every other answer
abbrev pub CountsRefusals : {T : Type 0} → ℕ → ℕ → Result T MakeTokensFault → Type 0
CountsRefusals before now (Ok made) = now ≡ before
CountsRefusals before now (Err (Refused i)) = Faulted before now
CountsRefusals before now (Err (EmptyMatch i)) = now ≡ before
CountsRefusals before now (Err NoMemory) = now ≡ before

-- the text last refused stays what it was at every answer but `Refused`
abbrev pub KeepsRefused : {T : Type 0} → Option (List ℕ) → Option (List ℕ) → Result T MakeTokensFault → Type 0
KeepsRefused before now (Ok made) = now ≡ before
KeepsRefused before now (Err (Refused i)) = Unit {0}
KeepsRefused before now (Err (EmptyMatch i)) = now ≡ before
KeepsRefused before now (Err NoMemory) = now ≡ before
