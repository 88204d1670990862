use Rattle.std.proofs.Common.{refl, subst}
use Rattle.std.specs.List.{flat_map}
use Rattle.std.proofs.lemmas.Result.{on_ok_weaker}
use Rattle.lw_grammar.specs.declared.rule.Value0.TheVariants as value
use Rattle.lw_grammar.specs.Leaves.{value_leaves}
use Rattle.lw_grammar.proofs.LeafLemmas.{values-Call, values-Cross}
use Rattle.lw_numbers.proofs.Equations.{values_of-Choice}
use Rattle.lw_kinds.specs.declared.gathering.Gathered.{Gathered}
use Rattle.lw_kinds.specs.Gathering.{GathersParts}
use Rattle.lw_kinds.proofs.GatherForms.{value_gathers, value_call_marked, cross_marked, values_more}
use Rattle.lw_kinds.proofs.names.Names.+values.Goals as goal

pub add_value-returns-in-Call : goal.add_value-returns-in-Call
add_value-returns-in-Call t c =
    let g = c.args.self.now.g.now in
    let file = c.args.file in
    let old = c.args.gathered.now in
    let new : Gathered = record { keywords = old.keywords; called = c.mark.new.called } in
    value_gathers g file old new (value.Call c.in-Call.name c.in-Call.field-1) _ c.in-Call.is (values-Call c.in-Call.name c.in-Call.field-1)
    (value_call_marked g file old new c.in-Call.name c.in-Call.field-1 refl c.mark.ensures)

pub add_value-returns-in-Cross : goal.add_value-returns-in-Cross
add_value-returns-in-Cross t c =
    let g = c.args.self.now.g.now in
    let file = c.args.file in
    let old = c.args.gathered.now in
    let new : Gathered = record { keywords = old.keywords; called = c.mark_cross.new.called } in
    let cross = c.in-Cross in
    value_gathers g file old new (value.Cross cross.wanted cross.rule cross.field-2) _ cross.is (values-Cross cross.wanted cross.rule cross.field-2)
    (cross_marked g file old new cross.wanted cross.rule cross.field-2 refl c.mark_cross.ensures)

pub add_value-returns-in-Choice : goal.add_value-returns-in-Choice
add_value-returns-in-Choice t c =
    let g = c.args.self.now.g.now in
    let file = c.args.file in
    let old = c.args.gathered.now in
    let new = c.add_values.new.gathered in
    on_ok_weaker c.add_values.result
    (λ gathers. value_gathers g file old new (value.Choice c.in-Choice.values c.in-Choice.field-1) _ c.in-Choice.is (values_of-Choice c.in-Choice.values c.in-Choice.field-1)
    (subst (λ vs. GathersParts g file (flat_map value_leaves vs) old new) c.as_slice.ensures gathers))
    c.add_values.ensures

pub add_values-loop-value-preserved : goal.add_values-loop-value-preserved
add_values-loop-value-preserved t c =
    values_more c.args.self.now.g.now c.args.file c.args.values.now c.args.gathered.now c.loop-value.value-index c.value-item.result c.loop-value-test.true c.value-item.is
    c.loop-value.gathered c.add_value.new.gathered c.loop-value.invariant c.in_ok-add_value.ensures
