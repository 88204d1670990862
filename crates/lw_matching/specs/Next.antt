-- When what stands next in a text, a token or none, stays so whatever bytes follow the text.
-- Held against the rules of the next token: it hangs on the keywords that the text begins with, and on what the terminals match there, in order.
use Rattle.std.specs.Prelude.{◌≡◌, ℕ, ◌<◌, List, ◌++◌, Option, All}
use Rattle.std.specs.Option.{option_map}
use Rattle.regex_nfa.specs.declared.nfa.Nfa.{Nfa}
use Rattle.lw_base.specs.declared.numbers.KindId.{KindId}
use Rattle.lw_matching.specs.Nfas.{AreNfas}
use Rattle.lw_tokens.specs.Lexicon.{Lexicon}
use Rattle.lw_tokens.specs.NextToken.{Next, IsNextToken}

-- what stands next at the start of the text, where it is of this kind or none where there is no kind, stays next
pub record NextStays (keywords : List (List ℕ)) (nfas : List Nfa) (text : List ℕ) (kind : Option KindId) : Type 0 where
  pub stays : (lexicon : Lexicon) → lexicon.keywords ≡ keywords → AreNfas lexicon.terminals nfas → (found : Option Next) →
      option_map (λ (next : Next). next.kind) found ≡ option_map (λ (k : KindId). k.0) kind → IsNextToken lexicon text found → (more : List ℕ) →
      All (λ b. b < 256) (text ++ more) → IsNextToken lexicon (text ++ more) found
