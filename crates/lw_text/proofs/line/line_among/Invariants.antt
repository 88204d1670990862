use Rattle.std.proofs.Common.{◌⊎◌, ◌≡◌, ◌<◌, ◌≤◌, ◌-◌, length, get_or}
use Rattle.lw_text.proofs.line.line_among.Given as goal

abbrev pub invariant-halves : goal.invariant-halves
invariant-halves l = record {
  some : l.line < l.end;
  within : l.end ≤ length l.starts;
  from : get_or l.starts l.line 0 ≤ l.offset;
  to : (l.end ≡ length l.starts) ⊎ (l.offset < get_or l.starts l.end 0);
}

abbrev pub decreases-halves : goal.decreases-halves
decreases-halves l = l.end - l.line
