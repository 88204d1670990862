-- What is known of the tokens of a text that is to be parsed.
use Rattle.std.specs.Prelude.{ℕ, List, All}
use Rattle.lw_base.specs.declared.token.Token.{Token}
use Rattle.lw_grammar.specs.declared.grammar.Grammar.{Grammar}
use Rattle.lw_grammar.specs.Kinds.{Kinds}
use Rattle.lw_lexer.specs.TokenPlaces.{IsTokenPlace}
use Rattle.lw_parse.specs.Parsers.{ParserParts, ParsesFaultless}
use Rattle.lw_tokens.specs.Cut.{IsCut}
use Rattle.lw_tokens.specs.Lexicon.{Lexicon, IsLexicon}

-- the text is cut into these tokens by the lexicon of a grammar that is parsed by these parts
pub record CanParse (g : Grammar) (kinds : Kinds) (lexicon : Lexicon) (parser : ParserParts) (text : List ℕ) (tokens : List Token) : Type 0 where
  pub depth : ℕ
  pub parses : ParsesFaultless g kinds depth parser
  pub is_lexicon : IsLexicon g kinds lexicon
  pub cut : IsCut lexicon text tokens
  pub places : All (IsTokenPlace text) tokens
