use Rattle.std.proofs.Common.{◌-◌, ◌≤◌, length}
use Rattle.lw_text.proofs.Reaching.{Noted}
use Rattle.lw_text.proofs.line.line_starts.Given as goal

abbrev pub invariant-lines : goal.invariant-lines
invariant-lines l = record {
  noted : Noted l.text l.start l.starts;
  within : l.start ≤ length l.text;
}

abbrev pub decreases-lines : goal.decreases-lines
decreases-lines l = length l.text - l.start
