use Rattle.lw_properties.specs.Typed.{AreTypesOfRules}
use Rattle.lw_properties.proofs.rule_types.rule_types.Given as goal

abbrev pub invariant-loop-number : goal.invariant-loop-number
invariant-loop-number l = AreTypesOfRules l.g l.nodes l.makes l.number l.types.items
