use Rattle.std.proofs.Common.{take}
use Rattle.std.specs.List.{flat_map}
use Rattle.lw_numbers.specs.FirstUses.{Puts, rule_properties}
use Rattle.lw_numbers.specs.Numbering.{rule_types}
use Rattle.lw_numbers.proofs.first_uses.FirstUses.put_rules.Given as goal

abbrev pub invariant-loop-rule : goal.invariant-loop-rule
invariant-loop-rule l = Puts (flat_map rule_types (take l.rule-index l.rules)) (flat_map rule_properties (take l.rule-index l.rules)) l.fn.self l.self
