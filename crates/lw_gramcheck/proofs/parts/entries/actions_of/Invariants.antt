use Rattle.std.proofs.Common.{◌≡◌, ◌-◌, ◌^◌, min, take, sum_by, count_by}
use Rattle.lw_grammar.specs.Leaves.{leaves}
use Rattle.lw_faults.specs.Entries.{is_act}
use Rattle.lw_gramcheck.proofs.parts.entries.actions_of.Given as goal

abbrev pub invariant-loop-rule : goal.invariant-loop-rule
invariant-loop-rule l = l.actions ≡ min (sum_by (λ rule. count_by is_act (leaves rule.body)) (take l.rule-index l.rules)) (2 ^ 64 - 1)
