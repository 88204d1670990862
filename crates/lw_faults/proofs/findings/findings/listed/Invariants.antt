use Rattle.std.proofs.Common.{◌≡◌, map}
use Rattle.lw_faults.specs.Telling.{told_fault}
use Rattle.lw_faults.proofs.findings.findings.listed.Given as goal

abbrev pub invariant-loop-told : goal.invariant-loop-told
invariant-loop-told l = l.list ≡ map told_fault l.yielded
