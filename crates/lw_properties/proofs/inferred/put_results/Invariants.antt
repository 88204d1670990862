use Rattle.std.proofs.Common.{take}
use Rattle.lw_faults.specs.Finding.{Finds, OfSome}
use Rattle.lw_properties.specs.Mixing.{RuleInfers}
use Rattle.lw_properties.proofs.inferred.put_results.Given as goal

abbrev pub invariant-loop-rule : goal.invariant-loop-rule
invariant-loop-rule l = Finds (OfSome RuleInfers (take l.rule-index l.rules)) l.initial.names.keys l.names.keys
