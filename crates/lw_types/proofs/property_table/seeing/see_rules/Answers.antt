use Rattle.std.proofs.Common.{[], get_or, length, Some, slice_get, sym, ap, ◌∙◌, arith}
use Rattle.std.proofs.lemmas.Option.{slice_get-get_or}
use Rattle.lw_types.proofs.Adding.{sees_none, sees_step}
use Rattle.lw_types.proofs.property_table.seeing.see_rules.Goals as goal

pub loop-number-init : goal.loop-number-init
loop-number-init c = sees_none c.args.wanted.now c.args.gatherings.now

pub see_rule-requires-clause-row : goal.see_rule-requires-clause-row
see_rule-requires-clause-row c row at =
    let i = c.loop-number.number in
    let items = c.as_slice-rule-items.result.now in
    let there = ap (λ rules. slice_get rules i) (sym c.as_slice-rule-items.ensures) ∙ slice_get-get_or items i c.rule-item.result c.loop-number-test.true ∙ ap Some (sym c.rule-item.is) in
    c.requires.ways.entries_of_leaves i c.rule-item.result row there at

pub loop-number-preserved : goal.loop-number-preserved
loop-number-preserved c =
    let i = c.loop-number.number in
    let items = c.as_slice-rule-items.result.now in
    let rows = c.args.ways.now in
    let there = ap (λ rules. slice_get rules i) (sym c.as_slice-rule-items.ensures) ∙ slice_get-get_or items i c.rule-item.result c.loop-number-test.true ∙ ap Some (sym c.rule-item.is) in
    let also = slice_get-get_or rows i [] (omega (arith, c.loop-number-test.true, c.requires.ways.rows_of_rules, ap length c.as_slice-rule-items.ensures)) in
    sees_step c.args.wanted.now c.args.source.now.g.now.rules rows i c.rule-item.result (get_or rows i []) there also c.loop-number.invariant (c.in_ok-see_rule.ensures (get_or rows i []) also)
