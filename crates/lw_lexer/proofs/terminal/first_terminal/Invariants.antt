use Rattle.std.proofs.Common.{◌≡◌, ℕ, ◌<◌, ◌≤◌, Some, slice_get}
use Rattle.lw_tokens.specs.NextToken.{lengths}
use Rattle.lw_lexer.proofs.terminal.first_terminal.Given as goal

abbrev pub invariant-loop-i : goal.invariant-loop-i
invariant-loop-i l = record {
  same : l.matchers.items ≡ l.fn.matchers.items;
  known : l.known.items ≡ l.fn.known.items;
  none : (j o : ℕ) → j < l.i → slice_get (lengths l.fn.matchers.items l.text) j ≡ Some (Some o) → o ≤ l.least;
}
