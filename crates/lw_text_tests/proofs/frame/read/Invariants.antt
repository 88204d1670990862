use Rattle.std.proofs.Common.{◌≡◌, ◌≤◌, ◌-◌, length, false}
use Rattle.lw_text_tests.proofs.frame.read.Given as goal

abbrev pub invariant-pieces : goal.invariant-pieces
invariant-pieces l = record {
  fed : length l.reader.stream.fed ≡ l.fed;
  within : l.fed ≤ length l.stream;
  going_on : l.reader.stream.closed ≡ false;
}

abbrev pub decreases-pieces : goal.decreases-pieces
decreases-pieces l = length l.stream - l.fed
