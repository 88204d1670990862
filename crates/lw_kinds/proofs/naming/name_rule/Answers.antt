use Rattle.std.proofs.Common.{ℕ, MatchOption, sym, subst}
use Rattle.lw_kinds.specs.NameRuleNumbers.{IsNameRuleNumber}
use Rattle.lw_kinds.proofs.NamedByRules.{none_read, read_by}
use Rattle.lw_kinds.proofs.naming.name_rule.Goals as goal

pub returns-in_err-name : goal.returns-in_err-name
returns-in_err-name c g numbered related =
    let wanted = c.args.wanted.now in
    subst (λ r. MatchOption r ((n : ℕ) → ¬ IsNameRuleNumber g wanted n) (λ id. IsNameRuleNumber g wanted id.0)) (sym c.from_residual.ensures)
    (none_read g wanted (c.in_err-name.ensures g related))

pub returns : goal.returns
returns c g numbered related = read_by g c.args.wanted.now c.in_ok-name.name.now (c.in_ok-name.ensures g related) c.rule.result (c.rule.ensures g numbered)
