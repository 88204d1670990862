use Rattle.std.proofs.Common.{◌≤◌}
use Rattle.lw_matching.specs.Front.{TerminalsStay}
use Rattle.lw_matching.proofs.sure.front.terminals_stay.Given as goal

abbrev pub invariant-loop-j : goal.invariant-loop-j
invariant-loop-j l = record {
  stay : TerminalsStay l.nfas l.text l.j;
  left : l.walker ≤ l.initial.walker;
}
