-- What is known of the terminals' matches in a text, one terminal after the other, and at its places.
use Rattle.std.proofs.Common.{ℕ, List, drop, IsCharBoundary, sym, ap, subst}
use Rattle.lw_tokens.specs.Lexicon.{TerminalForm}
use Rattle.lw_matching.specs.Known.{Tried}
use Rattle.lw_lexer.specs.Known.{AreKnownIn, AreKnownAt}

-- what is known of a text is known at each of its places
pub known_at : (terminals : List TerminalForm) (text : List ℕ) (known : List Tried) (at : ℕ) → IsCharBoundary text at → AreKnownIn terminals text known →
    AreKnownAt terminals (drop at text) at known
known_at terminals text known at cut are j form one there held =
    let is = are j form one there held in
    record {
      pattern = is.pattern;
      cut = subst (λ (t : List ℕ). IsCharBoundary t at) (sym is.of_text) cut;
      rest = ap (drop at) is.of_text;
    }
