use Rattle.std.proofs.Common.{◌≡◌, ◌<◌, ◌≤◌, IfOk, IfErr, length, get_or, subst}
use Rattle.lw_look.specs.Choices.{choice_sites}
use Rattle.lw_lookahead.specs.declared.points.point.TheConstants.{MOST_STRINGS}
use Rattle.lw_lookahead.specs.Points.{ArePoints, CausesNoPoints, strings_in}
use Rattle.lw_lookahead.proofs.PointsGatherSteps.{handed_on}
use Rattle.lw_lookahead.proofs.PutSteps.{all_points, causes}
use Rattle.lw_lookahead.proofs.RuleSteps.{rules_begin, rules_end, rules_go_on, rules_fail}
use Rattle.lw_lookahead.proofs.points.gathering.points.Goals as goal

pub loop-number-init : goal.loop-number-init
loop-number-init c = record {
  left = rules_begin c.args.first.now c.args.followers.now c.new-gathered.result.points.items c.new-gathered.ensures.none;
  counted = c.new-gathered.ensures.counted;
}

pub loop-number-preserved : goal.loop-number-preserved
loop-number-preserved c =
    let i = c.loop-number.number in
    let rule = c.rule-item.result in
    let same = c.as_slice-rule-items.ensures in
    record {
      left = rules_go_on c.args.first.now c.args.followers.now i rule (subst (λ rules. i < length rules) same c.loop-number-test.true)
          (subst (λ rules. rule ≡ get_or rules i rule) same c.rule-item.is) c.heads_at.result.now c.heads_at.ensures c.loop-number.gathered.points.items
          c.add_element.new.gathered.points.items c.loop-number.invariant.left c.in_ok-add_element.ensures.gathers;
      counted = c.in_ok-add_element.ensures.counted;
    }

pub returns-in_err-add_element-clause-points : goal.returns-in_err-add_element-clause-points
returns-in_err-add_element-clause-points c =
    let first = c.args.first.now in
    λ kinds are.
    handed_on (λ result. IfOk result (λ points. ArePoints first.lexicon.g.now kinds first.k first.heads.now c.args.followers.now (choice_sites first.lexicon.g.now) points.items))
    c.from_residual.result c.in_err-add_element.field-0.0 c.from_residual.ensures.1 tt

pub returns-in_err-add_element-clause-few : goal.returns-in_err-add_element-clause-few
returns-in_err-add_element-clause-few c =
    handed_on (λ result. IfOk result (λ points. strings_in points.items ≤ MOST_STRINGS)) c.from_residual.result c.in_err-add_element.field-0.0 c.from_residual.ensures.1 tt

pub returns-in_err-add_element-clause-fault : goal.returns-in_err-add_element-clause-fault
returns-in_err-add_element-clause-fault c =
    let first = c.args.first.now in
    let followers = c.args.followers.now in
    let i = c.loop-number.number in
    let rule = c.rule-item.result in
    let same = c.as_slice-rule-items.ensures in
    let new = c.add_element.new.gathered.points.items in
    let fault = c.in_err-add_element.field-0.0 in
    λ kinds are.
    handed_on (λ result. IfErr result (CausesNoPoints first.lexicon.g.now kinds first.k first.heads.now followers)) c.from_residual.result fault c.from_residual.ensures.1
    (causes first.lexicon.g.now kinds first.k first.heads.now followers new fault
    (rules_fail first followers i rule (subst (λ rules. i < length rules) same c.loop-number-test.true)
    (subst (λ rules. rule ≡ get_or rules i rule) same c.rule-item.is) c.heads_at.result.now c.heads_at.ensures c.loop-number.gathered.points.items
    new c.loop-number.invariant.left fault c.in_err-add_element.ensures.gathers kinds are))

pub returns-clause-points : goal.returns-clause-points
returns-clause-points c =
    let first = c.args.first.now in
    λ kinds are.
    all_points first.lexicon.g.now kinds first.k first.heads.now c.args.followers.now (choice_sites first.lexicon.g.now) c.loop-number.gathered.points.items
    (rules_end first c.args.followers.now c.loop-number.number c.loop-number.gathered.points.items kinds are
    (subst (λ rules. length rules ≤ c.loop-number.number) c.as_slice-rule-items.ensures c.loop-number-test.false) c.loop-number.invariant.left)
