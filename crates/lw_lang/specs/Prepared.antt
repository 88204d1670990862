-- What a language keeps, made from its grammar: its types, the tokens' kinds, and what its texts are parsed by.
use Rattle.std.specs.Prelude.{◌≡◌}
use Rattle.lw_grammar.specs.declared.grammar.Grammar.{Grammar}
use Rattle.lw_grammar.specs.Kinds.{Kinds, AreKinds}
use Rattle.lw_grammar.specs.KindTexts.{texts_of}
use Rattle.lw_tokens.specs.Lexicon.{IsLexicon}
use Rattle.lw_types.specs.Inferred.{AreTypesOf}
use Rattle.lw_types.specs.declared.types.Types.{Types}
use Rattle.lw_matchers.specs.TokenKinds.{TokenKinds}
use Rattle.lw_parse.specs.Parsers.{ParserParts, ParsesFaultless}

pub record IsPrepared (g : Grammar) (types : Types) (tokens : TokenKinds) (parser : ParserParts) : Type 0 where
  pub typed : AreTypesOf g types
  pub of : Kinds
  pub kinds : AreKinds g of
  pub lexicon : IsLexicon g of tokens.lexicon
  pub texts : tokens.texts ≡ texts_of of
  pub parses : ParsesFaultless g of parser.k parser
