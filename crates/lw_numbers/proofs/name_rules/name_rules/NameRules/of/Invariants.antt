use Rattle.std.proofs.Common.{take}
use Rattle.lw_numbers.proofs.Entries.{AreNameRulesAmong}
use Rattle.lw_numbers.proofs.name_rules.name_rules.NameRules.of.Given as goal

abbrev pub invariant-loop-rule : goal.invariant-loop-rule
invariant-loop-rule l = AreNameRulesAmong l.g (take l.rule-index l.g.rules) l.called.by_type.entries
