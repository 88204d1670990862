use Rattle.std.proofs.Common.{inl, inr, subst}
use Rattle.lw_grammar.specs.Named.{declared_rule, declared_terminal}
use Rattle.lw_numbers.specs.Numbering.{Means, rule_}
use Rattle.lw_numbers.proofs.SubtypesMeanings.{not_both}
use Rattle.lw_numbers.proofs.subtypes.called.called_rule.Goals as goal

pub returns-in-Terminal : goal.returns-in-Terminal
returns-in-Terminal c =
    let g = c.args.g.now in
    let name = c.args.name.now in
    λ r rule was. elim c.in-Terminal.is [
      | inl (t, terminal, is) ↦ not_both declared_terminal declared_rule name g.terminals g.rules t terminal.now r rule (subst (Means g name) is c.called.ensures) was
      | inr is ↦ subst (Means g name) is c.called.ensures r (rule_ r rule was)
    ]
