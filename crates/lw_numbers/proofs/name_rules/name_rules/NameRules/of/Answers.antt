use Rattle.std.proofs.Common.{◌<◌, ◌≤◌, ◌++◌, ◌∷◌, [], take, get_or, length, sym, ap, ◌∙◌, subst, arith}
use Rattle.std.proofs.lemmas.List.{take_more, take_all}
use Rattle.lw_numbers.proofs.Entries.{AreNameRulesAmong, among_more, are_name_rules}
use Rattle.lw_numbers.proofs.name_rules.name_rules.NameRules.of.Goals as goal

pub loop-rule-preserved : goal.loop-rule-preserved
loop-rule-preserved c =
    let g = c.args.g.now in
    let i = c.loop-rule.rule-index in
    let rule = c.rule-item.result in
    let inside : i < length g.rules = omega (arith, c.loop-rule-test.true, ap length c.as_slice-rule-items.ensures) in
    let is = c.rule-item.is ∙ ap (λ rules. get_or rules i rule) c.as_slice-rule-items.ensures in
    subst (λ rules. AreNameRulesAmong g rules c.put_rule.new.called.entries) (ap (λ x. take i g.rules ++ x ∷ []) is ∙ sym (take_more g.rules i rule inside))
    (among_more g (take i g.rules) rule c.loop-rule.called.by_type.entries c.put_rule.new.called.entries c.loop-rule.invariant c.in_ok-put_rule.ensures)

pub returns : goal.returns
returns c =
    let g = c.args.g.now in
    let i = c.loop-rule.rule-index in
    let entries = c.loop-rule.called.by_type.entries in
    let past : length g.rules ≤ i = omega (arith, c.loop-rule-test.false, ap length c.as_slice-rule-items.ensures) in
    are_name_rules g entries (subst (λ rules. AreNameRulesAmong g rules entries) (take_all i g.rules past) c.loop-rule.invariant)
