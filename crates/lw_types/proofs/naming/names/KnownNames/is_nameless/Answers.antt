use Rattle.std.proofs.Common.{ℕ, List, refl, subst}
use Rattle.lw_grammar.specs.NameRules.{IsNameRule}
use Rattle.lw_grammar.specs.Written.{IsNoRule}
use Rattle.lw_grammar.proofs.Naming.{one_name_rule}
use Rattle.lw_types.proofs.naming.names.KnownNames.is_nameless.Goals as goal

pub returns-in-Some : goal.returns-in-Some
returns-in-Some c =
    let g = c.args.self.now.g.now in
    let reads : IsNameRule g c.args.wanted.now c.in-Some.called.now = rw c.in-Some.is at (c.rule_of.ensures g c.requires.ruled) in (
      λ is other names. subst (IsNoRule g) (one_name_rule g c.args.wanted.now c.in-Some.called.now other reads names) (c.is_no_rule.ensures.0 is),
      λ nameless. c.is_no_rule.ensures.1 (nameless c.in-Some.called.now reads),
    )

pub returns-in-None : goal.returns-in-None
returns-in-None c =
    let g = c.args.self.now.g.now in
    let none : (called : List ℕ) → ¬ IsNameRule g c.args.wanted.now called = rw c.in-None.is at (c.rule_of.ensures g c.requires.ruled) in
    (λ is called names. absurd (none called names), λ nameless. refl)
