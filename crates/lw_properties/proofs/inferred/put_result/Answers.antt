use Rattle.std.proofs.Common.{◌≡◌, sym, subst}
use Rattle.lw_properties.specs.Mixing.{RuleInfers, InfersByResult}
use Rattle.lw_properties.proofs.Found.{found_as}
use Rattle.lw_properties.proofs.inferred.put_result.Goals as goal

pub returns-in-Own : goal.returns-in-Own
returns-in-Own c =
    let rule = c.args.rule.now in
    found_as (λ n. n ≡ rule.name) (RuleInfers rule) c.args.names.now.keys c.put_name.new.names.keys c.put_name.result
    (λ n. (λ is. (c.if-rule.false, subst (λ r. InfersByResult r rule.name n) (sym c.in-Own.is) is), λ is. subst (λ r. InfersByResult r rule.name n) c.in-Own.is is.1)) c.put_name.ensures

pub returns-in-Infers : goal.returns-in-Infers
returns-in-Infers c =
    let rule = c.args.rule.now in
    let other = c.in-Infers.name in
    found_as (λ n. n ≡ other) (RuleInfers rule) c.args.names.now.keys c.put_name-in-Infers.new.names.keys c.put_name-in-Infers.result
    (λ n. (λ is. (c.if-rule.false, subst (λ r. InfersByResult r rule.name n) (sym c.in-Infers.is) is), λ is. subst (λ r. InfersByResult r rule.name n) c.in-Infers.is is.1))
    c.put_name-in-Infers.ensures
