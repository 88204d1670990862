-- The kinds of tokens: what texts are cut by, and the text by which each kind is told. The keywords come first, then the terminals.
use Rattle.std.specs.Prelude.{ℕ, ◌+◌, ◌≤◌, ◌≡◌, List, length}
use Rattle.lw_tokens.specs.Keywords.{AreKeywords}
use Rattle.lw_tokens.specs.Lexicon.{Lexicon}

pub record TokenKinds : Type 0 where
  pub lexicon : Lexicon
  pub texts : List (List ℕ)

-- each kind has a number of 16 bits and a text, and the keywords can be told apart
pub record AreTokenKinds (kinds : TokenKinds) : Type 0 where
  pub keywords : AreKeywords kinds.lexicon.keywords
  pub texts : length kinds.texts ≡ length kinds.lexicon.keywords + length kinds.lexicon.terminals
  pub few : length kinds.texts ≤ 65535
