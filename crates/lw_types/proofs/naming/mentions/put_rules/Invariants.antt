use Rattle.std.proofs.Common.{◌≡◌, ◌++◌, map, take}
use Rattle.std.specs.List.{flat_map}
use Rattle.lw_types.specs.NameUses.{use_of, rule_uses}
use Rattle.lw_types.proofs.naming.mentions.put_rules.Given as goal

abbrev pub invariant-loop-rule : goal.invariant-loop-rule
invariant-loop-rule l =
    map use_of l.found.items ≡ map use_of l.fn.found.items ++ flat_map rule_uses (take l.rule-index l.rules)
