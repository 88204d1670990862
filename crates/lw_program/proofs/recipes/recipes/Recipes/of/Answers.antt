use Rattle.std.proofs.Common.{◌≤◌, length, subst}
use Rattle.std.proofs.lemmas.List.{take_all}
use Rattle.lw_look.specs.Sites.{body}
use Rattle.lw_look.specs.Sites as site
use Rattle.lw_program.specs.Drafted.{AreDrafted}
use Rattle.lw_program.proofs.Drafting.{rule_at, none_drafted, rule_drafted, all_drafted}
use Rattle.lw_program.proofs.recipes.recipes.Recipes.of.Goals as goal

pub loop-rule-init : goal.loop-rule-init
loop-rule-init c =
    none_drafted c.args.lexicon.g.now (record { values = c.new.result; actions = c.new-2.result }) c.new-types.result.items c.new.ensures.items c.new-2.ensures.items
    c.new-types.ensures.items

pub loop-rule-preserved : goal.loop-rule-preserved
loop-rule-preserved c =
    let g = c.args.lexicon.g.now in
    let rules = c.as_slice-rule-items in
    let i = c.loop-rule.rule-index in
    let rule = c.rule-item.result in
    let at = rule_at g.rules rules.result.now i rule rules.ensures c.loop-rule-test.true c.rule-item.is in
    rule_drafted g i rule c.opened_type.result c.loop-rule.draft c.pass.new.self c.loop-rule.types.items c.push.new.self.items at c.loop-rule.invariant
    (c.in_ok-pass.ensures (body i) (site.whole at)) c.opened_type.ensures c.in_ok-push.ensures.items

pub returns : goal.returns
returns c =
    let g = c.args.lexicon.g.now in
    let rules = c.as_slice-rule-items in
    let i = c.loop-rule.rule-index in
    let past : length g.rules ≤ i = subst (λ rules. length rules ≤ i) rules.ensures c.loop-rule-test.false in
    all_drafted g c.loop-rule.draft c.loop-rule.types.items c.in_ok-naming.naming
    (subst (λ rules. AreDrafted g rules c.loop-rule.draft c.loop-rule.types.items) (take_all i g.rules past) c.loop-rule.invariant) c.in_ok-naming.ensures

pub pass-requires-clause-stands : goal.pass-requires-clause-stands
pass-requires-clause-stands c =
    let rules = c.as_slice-rule-items in
    let i = c.loop-rule.rule-index in
    (body i, site.whole (rule_at c.args.lexicon.g.now.rules rules.result.now i c.rule-item.result rules.ensures c.loop-rule-test.true c.rule-item.is))
