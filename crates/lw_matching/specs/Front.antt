-- How many tokens of a text's cut stand, whatever bytes follow the text.
-- Held against the definition of the cut: the tokens that stand are a cut of each longer text up to where the last of them ends.
use Rattle.std.specs.Prelude.{◌≡◌, ℕ, ◌+◌, ◌-◌, ◌<◌, List, [], ◌∷◌, ◌++◌, take, min, All, Some, slice_get, if◌then◌else◌, nat_lt}
use Rattle.regex_nfa.specs.declared.nfa.Nfa.{Nfa}
use Rattle.lw_base.specs.declared.token.Token.{Token}
use Rattle.lw_matching.specs.Nfas.{AreNfas}
use Rattle.lw_tokens.specs.Lexicon.{Lexicon, TerminalForm}
use Rattle.lw_tokens.specs.Matching.{match_length}
use Rattle.lw_tokens.specs.Cut.{IsCutTo}

-- where the last of these tokens ends, or the place where there is none
abbrev pub end_from : ℕ → List Token → ℕ
end_from at [] = at
end_from at (t ∷ ts) = end_from t.span.end ts

-- the first n terminals match the same at the start of the text, whatever bytes follow
pub record TerminalsStay (nfas : List Nfa) (text : List ℕ) (n : ℕ) : Type 0 where
  pub stay : (terminals : List TerminalForm) → AreNfas terminals nfas → (more : List ℕ) → All (λ b. b < 256) (text ++ more) →
      (j : ℕ) (form : TerminalForm) → j < n → slice_get terminals j ≡ Some form →
      match_length form.pattern (text ++ more) ≡ match_length form.pattern text

-- how many of so many terminals are asked for a token of this kind, behind so many keywords
abbrev pub counted : ℕ → ℕ → ℕ → ℕ
counted keywords terminals kind = if nat_lt kind keywords then terminals else min (kind - keywords + 1) terminals

-- where the text is cut into these tokens, be it up to its end or not, the first n of them begin its cut whatever bytes follow
pub record FrontStays (keywords : List (List ℕ)) (nfas : List Nfa) (text : List ℕ) (tokens : List Token) (n : ℕ) : Type 0 where
  pub stays : (lexicon : Lexicon) → lexicon.keywords ≡ keywords → AreNfas lexicon.terminals nfas → (to : ℕ) →
      IsCutTo lexicon text to tokens → (more : List ℕ) → All (λ b. b < 256) (text ++ more) → IsCutTo lexicon (text ++ more) (end_from 0 (take n tokens)) (take n tokens)
