use Rattle.std.proofs.Common.{◌≡◌, ◌-◌, ◌≤◌, length, List}
use Rattle.lw_text.specs.Lines.{Line}
use Rattle.lw_text.proofs.Reaching.{Reached}
use Rattle.lw_text.proofs.line.line_at.Given as goal

abbrev pub invariant-lines : goal.invariant-lines
invariant-lines l = record {
  before : List Line;
  reached : Reached l.text l.line.start before;
  number : l.line.number ≡ length before;
  near : l.line.start ≤ l.offset;
  few : l.line.number ≤ l.line.start;
}

abbrev pub decreases-lines : goal.decreases-lines
decreases-lines l = length l.text - l.line.start
