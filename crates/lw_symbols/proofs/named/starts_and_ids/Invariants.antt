use Rattle.std.proofs.Common.{ℕ, ◌≡◌, ◌<◌, length, get_or}
use Rattle.lw_symbols.specs.Families.{named_before}
use Rattle.lw_symbols.proofs.named.starts_and_ids.Given as goal

abbrev pub invariant-loop-number : goal.invariant-loop-number
invariant-loop-number l = record {
  ids : l.ids.items ≡ named_before l.tree l.number;
  long : length l.starts.items ≡ l.number;
  starts : (n : ℕ) → n < l.number → get_or l.starts.items n 0 ≡ length (named_before l.tree n);
}
