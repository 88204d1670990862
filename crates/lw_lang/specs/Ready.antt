-- A language as callers see it, and what holds of its fields.
use Rattle.lw_lang.specs.Language.{LanguageView}
use Rattle.lw_lang.specs.Prepared.{IsPrepared}
use Rattle.lw_lang.specs.declared.language.Language.TheInside.{Inside}

abbrev pub seen_as : Inside → LanguageView
seen_as l = record { grammar = l.grammar; texts = l.tokens.texts; depth = l.parser.k }

abbrev pub IsLanguageReady : Inside → Type 0
IsLanguageReady l = IsPrepared l.grammar l.types l.tokens l.parser
