use Rattle.std.proofs.Common.{IfSome, IsCharBoundary}
use Rattle.lw_lexer.proofs.KeywordLemmas.{IsBestOf}
use Rattle.lw_lexer.proofs.keyword.longest_keyword.Given as goal

abbrev pub invariant-loop-place : goal.invariant-loop-place
invariant-loop-place l = record {
  best : IsBestOf l.place-index l.place-items l.set.lexicon.keywords l.text l.best;
  boundary : IfSome l.best (λ found. IsCharBoundary l.text found.1);
}
