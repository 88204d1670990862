use Rattle.std.proofs.Common.{◌≡◌, ℕ, ◌<◌, List, length, slice_index_or}
use Rattle.lw_matchers.specs.Starting.{AreStarting}
use Rattle.lw_matchers.proofs.starting.by_first_byte.Given as goal

abbrev pub invariant-loop-byte : goal.invariant-loop-byte
invariant-loop-byte l = record {
  each_byte : length l.table.items ≡ l.byte;
  places : (byte : ℕ) (d : List ℕ) → byte < l.byte → AreStarting l.keywords byte (slice_index_or l.table.items byte d);
}
