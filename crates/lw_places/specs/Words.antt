-- The word that is being typed at an offset of a text, with the text before it and the text behind the offset.
-- Held against the Language Server Protocol 3.17, "Completion Request": what is offered takes the place of a range that ends at the position. That a word is
-- ASCII letters, digits and underscores is this profile's.
use Rattle.std.specs.Prelude.{ℕ, ◌≡◌, ◌≤◌, List, [], ◌∷◌, ◌++◌, true, take, drop, length, All}
use Rattle.lw_gramlex.specs.FileTokens.{is_word_part}

-- the longest word that ends at the offset, the text before the word, and the text from the offset on
pub record IsTypedAt (text : List ℕ) (offset : ℕ) (front word rest : List ℕ) : Type 0 where
  pub inside : offset ≤ length text
  pub before : take offset text ≡ front ++ word
  pub behind : drop offset text ≡ rest
  pub are : All (λ b. is_word_part b ≡ true) word
  pub longest : (others : List ℕ) (b : ℕ) → front ≡ others ++ b ∷ [] → ¬ (is_word_part b ≡ true)

-- a text begins with the word
abbrev pub BeginsBy : List ℕ → List ℕ → Type 0
BeginsBy word text = (more : List ℕ) × (text ≡ word ++ more)
