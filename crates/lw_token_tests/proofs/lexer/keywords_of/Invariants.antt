use Rattle.lw_tokens.specs.Keywords.{AreKeywords}
use Rattle.lw_token_tests.proofs.lexer.keywords_of.Given as goal

abbrev pub invariant-loop-word : goal.invariant-loop-word
invariant-loop-word l = AreKeywords l.keywords.items
