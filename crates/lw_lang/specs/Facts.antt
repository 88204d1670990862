-- What is found out of the rules of a grammar once: what they can read, and the kinds of tokens.
use Rattle.lw_grammar.specs.declared.grammar.Grammar.{Grammar}
use Rattle.lw_kinds.specs.Reading.{IsReadingOf}
use Rattle.lw_kinds.specs.Rows.{AreKindRowOf}
use Rattle.lw_lang.specs.declared.facts.ReadingFacts.{ReadingFacts}

pub record AreReadingFactsOf (g : Grammar) (facts : ReadingFacts) : Type 0 where
  pub reading : IsReadingOf g facts.reading
  pub kinds : AreKindRowOf g facts.kinds
