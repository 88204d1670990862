use Rattle.std.proofs.Common.{◌≡◌, map, take}
use Rattle.lw_grammar.specs.KindTexts.{quoted}
use Rattle.lw_matchers.proofs.make.keyword_texts.Given as goal

abbrev pub invariant-loop-keyword : goal.invariant-loop-keyword
invariant-loop-keyword l = l.texts.items ≡ map quoted (take l.keyword-index l.keywords)
