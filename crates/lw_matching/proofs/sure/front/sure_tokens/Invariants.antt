use Rattle.std.proofs.Common.{◌≤◌}
use Rattle.lw_matching.specs.Front.{FrontStays}
use Rattle.lw_matching.proofs.sure.front.sure_tokens.Given as goal

abbrev pub invariant-loop-i : goal.invariant-loop-i
invariant-loop-i l = record {
  stays : FrontStays l.keywords l.nfas l.text l.tokens l.i;
  left : l.walker ≤ l.initial.walker;
}
