use Rattle.std.proofs.Common.{ℕ, MatchOption, ap, ◌∙◌, sym, subst, bytes_eq}
use Rattle.std.specs.Map.{lookup}
use Rattle.lw_numbers.specs.Numbering.{IsNumbered}
use Rattle.lw_numbers.proofs.Meanings.{rule_ahead, terminal_ahead, neither_ahead}
use Rattle.lw_numbers.proofs.numbers.Numbers.rule.Goals as goal

pub returns-in-Some : goal.returns-in-Some
returns-in-Some c g are =
    let name = c.args.name.now in
    rule_ahead g name c.args.self.now are (c.get-rule.ensures.value ∙ ap (λ tables. lookup (bytes_eq name) tables.rules) c.self.view_is)
    (c.get-terminal.ensures.value ∙ ap (λ tables. lookup (bytes_eq name) tables.terminals) c.self.view_is) c.in-Some.number c.in-Some.ensures

pub returns-in_ok-number-in-None : goal.returns-in_ok-number-in-None
returns-in_ok-number-in-None c g are =
    let name = c.args.name.now in
    let found = c.in_ok-number-in-None in
    terminal_ahead g name c.args.self.now are (c.get-rule.ensures.value ∙ ap (λ tables. lookup (bytes_eq name) tables.rules) c.self.view_is)
    (c.get-terminal.ensures.value ∙ ap (λ tables. lookup (bytes_eq name) tables.terminals) c.self.view_is) found.number found.ensures

pub returns-in_err-number-in-None : goal.returns-in_err-number-in-None
returns-in_err-number-in-None c g are =
    let name = c.args.name.now in
    subst (λ r. MatchOption r ((n : ℕ) → ¬ IsNumbered g name n) (λ id. IsNumbered g name id.0)) (sym c.from_residual.ensures)
    (neither_ahead g name c.args.self.now are (c.get-rule.ensures.value ∙ ap (λ tables. lookup (bytes_eq name) tables.rules) c.self.view_is)
    (c.get-terminal.ensures.value ∙ ap (λ tables. lookup (bytes_eq name) tables.terminals) c.self.view_is) c.in-None.ensures
    c.in_err-number-in-None.ensures)
