use Rattle.std.proofs.Common.{◌≡◌, ◌≤◌, ◌-◌, ◌++◌, length, drop}
use Rattle.lw_frame.specs.Frames.{bodies_of}
use Rattle.lw_frame.proofs.whole.drain.Given as goal

abbrev pub invariant-bodies : goal.invariant-bodies
invariant-bodies l = record {
  fed : l.reader.stream.fed ≡ l.fn.reader.stream.fed;
  closed : l.reader.stream.closed ≡ l.fn.reader.stream.closed;
  given : l.reader.stream.given ≤ length (bodies_of l.fn.reader.stream.fed);
  bodies : l.bodies ++ drop l.reader.stream.given (bodies_of l.fn.reader.stream.fed) ≡ l.fn.bodies ++ drop l.fn.reader.stream.given (bodies_of l.fn.reader.stream.fed);
}

abbrev pub decreases-bodies : goal.decreases-bodies
decreases-bodies l = length (bodies_of l.fn.reader.stream.fed) - l.reader.stream.given
