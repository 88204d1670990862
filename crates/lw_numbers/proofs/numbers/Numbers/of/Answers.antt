use Rattle.std.proofs.Common.{ap, subst, arith, length}
use Rattle.lw_grammar.specs.Named.{declared_rule, declared_terminal, declared_interface, declared_union}
use Rattle.lw_numbers.specs.Standing.{StandAmong}
use Rattle.lw_numbers.proofs.Sizes.{types-le, properties-le, numbers-le, interfaces-le, unions-le}
use Rattle.lw_numbers.proofs.numbers.Numbers.of.Goals as goal

pub standings-requires : goal.standings-requires
standings-requires c = omega (arith, numbers-le c.args.g.now, c.requires, ap length c.as_slice.ensures)

pub overflow_cast-len : goal.overflow_cast-len
overflow_cast-len c = omega (arith, numbers-le c.args.g.now, c.requires, c.len.ensures)

pub standings-requires-2 : goal.standings-requires-2
standings-requires-2 c = omega (arith, numbers-le c.args.g.now, c.requires, c.len.ensures, ap length c.as_slice-2.ensures)

pub standings-requires-3 : goal.standings-requires-3
standings-requires-3 c = omega (arith, interfaces-le c.args.g.now, c.requires, ap length c.as_slice-3.ensures)

pub standings-requires-4 : goal.standings-requires-4
standings-requires-4 c = omega (arith, unions-le c.args.g.now, c.requires, ap length c.as_slice-4.ensures)

pub invariant_of-result : goal.invariant_of-result
invariant_of-result c =
    let uses = c.in_ok-uses.ensures in
    (omega (arith, ap length uses.types, types-le c.args.g.now, c.requires), omega (arith, ap length uses.properties, properties-le c.args.g.now, c.requires))

pub returns : goal.returns
returns c = record {
  rules = subst (λ rules. StandAmong declared_rule 0 rules c.in_ok-rules.rules.by_name.entries) c.as_slice.ensures c.in_ok-rules.ensures;
  terminals =
      let entries = c.in_ok-terminals.terminals.by_name.entries in
      subst (λ first. StandAmong declared_terminal first c.args.g.now.terminals entries) c.len.ensures
      (subst (λ terminals. StandAmong declared_terminal c.len.result terminals entries) c.as_slice-2.ensures c.in_ok-terminals.ensures);
  interfaces = subst (λ interfaces. StandAmong declared_interface 0 interfaces c.in_ok-interfaces.interfaces.by_name.entries) c.as_slice-3.ensures c.in_ok-interfaces.ensures;
  unions = subst (λ unions. StandAmong declared_union 0 unions c.in_ok-unions.unions.by_name.entries) c.as_slice-4.ensures c.in_ok-unions.ensures;
  types = c.in_ok-uses.ensures.types;
  properties = c.in_ok-uses.ensures.properties;
}
