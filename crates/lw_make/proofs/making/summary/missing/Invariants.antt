use Rattle.std.proofs.Common.{◌≡◌, ◌+◌, ◌≤◌, drop}
use Rattle.lw_make.specs.Counting.{missing_in}
use Rattle.lw_make.proofs.making.summary.missing.Given as goal

abbrev pub invariant-answers : goal.invariant-answers
invariant-answers l = record {
  counted : l.count + missing_in (drop l.answer-index l.answers) ≡ missing_in l.answers;
  few : l.count ≤ l.answer-index;
}
