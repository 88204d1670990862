use Rattle.std.proofs.Common.{All}
use Rattle.std.specs.Str.{IsCharBoundary}
use Rattle.lw_token_tests.proofs.sure.tokens_of.Given as goal

abbrev pub invariant-loop-digit : goal.invariant-loop-digit
invariant-loop-digit l = record { starts : All (λ t. IsCharBoundary l.front t.span.start) l.tokens.items }
