use Rattle.std.proofs.Common.{◌≡◌, ℕ, ◌<◌, false}
use Rattle.lw_query.specs.Looking.{is_at, is_named_at}
use Rattle.lw_query.proofs.places.first_name.Given as goal

abbrev pub invariant-loop-n : goal.invariant-loop-n
invariant-loop-n l = (m : ℕ) → m < l.n → is_named_at (is_at l.side l.off) l.tree m ≡ false
