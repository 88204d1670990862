use Rattle.std.proofs.Common.{◌≡◌}
use Rattle.lw_token_tests.proofs.lengths.known_after.Given as goal

abbrev pub invariant-loop : goal.invariant-loop
invariant-loop l = l.known.text ≡ l.text
