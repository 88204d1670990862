use Rattle.std.proofs.Common.{◌∷◌, ◌∙◌, Ok, Err, map, subst, ap}
use Rattle.lw_look.specs.Choices.{value_choices, inside}
use Rattle.lw_lookahead.specs.Gathering.{HasSomeValueAlternatives, HasValueAlternatives, IsValueAt, GathersWhere, site_alone}
use Rattle.lw_lookahead.proofs.ChoiceForms.{value_alone, values-Choice}
use Rattle.lw_lookahead.proofs.PointsGatherSteps.{handed_on, gathers_none, gathers_as, outer_fails, outer_then, loop_begins, loop_ends, loop_goes_on, loop_fails}
use Rattle.lw_lookahead.proofs.LeadForms.{values_at, leads_value}
use Rattle.lw_lookahead.proofs.points.walk.Walk.+values.Goals as goal

pub add_value-returns-in-Keyword-clause-gathers : goal.add_value-returns-in-Keyword-clause-gathers
add_value-returns-in-Keyword-clause-gathers t c =
    let v = c.args.value.now in
    gathers_none c.args.self.now.first c.args.self.now.file (IsValueAt v) c.args.after.now (value_choices v) c.args.gathered.now.points.items tt (λ s. value_alone s v c.in-Keyword.is)

pub add_value-returns-in-Keyword-2-clause-gathers : goal.add_value-returns-in-Keyword-2-clause-gathers
add_value-returns-in-Keyword-2-clause-gathers t c =
    let v = c.args.value.now in
    gathers_none c.args.self.now.first c.args.self.now.file (IsValueAt v) c.args.after.now (value_choices v) c.args.gathered.now.points.items tt (λ s. value_alone s v c.in-Keyword.is)

pub add_value-returns-in-Keyword-3-clause-gathers : goal.add_value-returns-in-Keyword-3-clause-gathers
add_value-returns-in-Keyword-3-clause-gathers t c =
    let v = c.args.value.now in
    gathers_none c.args.self.now.first c.args.self.now.file (IsValueAt v) c.args.after.now (value_choices v) c.args.gathered.now.points.items tt (λ s. value_alone s v c.in-Keyword.is)

pub add_value-returns-in_err-put_values-in-Choice-clause-gathers : goal.add_value-returns-in_err-put_values-in-Choice-clause-gathers
add_value-returns-in_err-put_values-in-Choice-clause-gathers t c =
    let first = c.args.self.now.first in
    let file = c.args.self.now.file in
    let after = c.args.after.now in
    let v = c.args.value.now in
    let values = c.in-Choice.values in
    let span = c.in-Choice.span in
    let old = c.args.gathered.now.points.items in
    let new = c.put_values.new.gathered.points.items in
    let fault = c.in_err-put_values-in-Choice.field-0.0 in
    handed_on (GathersWhere first file (IsValueAt v) after (value_choices v) old new) c.from_residual.result fault c.from_residual.ensures.1
    (gathers_as first file (IsValueAt v) after (HasValueAlternatives values span) (value_choices v) (λ s. s ∷ inside s 0 (map value_choices values)) old new (Err fault)
    (λ g s. values_at g s v values span c.in-Choice.is) (λ s. ap (λ v. value_choices v s) c.in-Choice.is ∙ values-Choice s values span)
    (outer_fails first file (HasValueAlternatives values span) after (λ s. inside s 0 (map value_choices values)) old new fault
    (subst (λ vs. GathersWhere first file (HasValueAlternatives vs span) after site_alone old new (Err fault)) c.as_slice.ensures c.in_err-put_values-in-Choice.ensures.gathers)))

pub add_value-returns-in_ok-put_values-in-Choice-clause-gathers : goal.add_value-returns-in_ok-put_values-in-Choice-clause-gathers
add_value-returns-in_ok-put_values-in-Choice-clause-gathers t c =
    let first = c.args.self.now.first in
    let file = c.args.self.now.file in
    let after = c.args.after.now in
    let v = c.args.value.now in
    let values = c.in-Choice.values in
    let span = c.in-Choice.span in
    let old = c.args.gathered.now.points.items in
    let mid = c.put_values.new.gathered.points.items in
    let new = c.add_values.new.gathered.points.items in
    gathers_as first file (IsValueAt v) after (HasValueAlternatives values span) (value_choices v) (λ s. s ∷ inside s 0 (map value_choices values)) old new c.add_values.result
    (λ g s. values_at g s v values span c.in-Choice.is) (λ s. ap (λ v. value_choices v s) c.in-Choice.is ∙ values-Choice s values span)
    (outer_then first file (HasValueAlternatives values span) after (λ s. inside s 0 (map value_choices values)) old mid tt new (HasSomeValueAlternatives values) c.add_values.result
    (λ g s at. (span, at))
    (subst (λ vs. GathersWhere first file (HasValueAlternatives vs span) after site_alone old mid (Ok tt)) c.as_slice.ensures c.in_ok-put_values-in-Choice.ensures.gathers)
    (subst (λ vs. GathersWhere first file (HasSomeValueAlternatives vs) after (λ s. inside s 0 (map value_choices vs)) mid new c.add_values.result) c.as_slice-in-Choice.ensures
    c.add_values.ensures.gathers))

pub add_values-loop-value-init : goal.add_values-loop-value-init
add_values-loop-value-init t c =
    let values = c.args.values.now in
    record {
      gathers = loop_begins c.args.self.now.first c.args.self.now.file (HasSomeValueAlternatives values) c.args.after.now value_choices values c.args.gathered.now.points.items;
      counted = c.requires.counted;
    }

pub add_values-loop-value-preserved : goal.add_values-loop-value-preserved
add_values-loop-value-preserved t c =
    let first = c.args.self.now.first in
    let file = c.args.self.now.file in
    let after = c.args.after.now in
    let values = c.args.values.now in
    let i = c.loop-value.value-index in
    let v = c.value-item.result in
    record {
      gathers = loop_goes_on first file (HasSomeValueAlternatives values) after value_choices values i v c.loop-value-test.true c.value-item.is (IsValueAt v) after
          (leads_value first file after values i v c.loop-value-test.true c.value-item.is) c.args.gathered.now.points.items c.loop-value.gathered.points.items
          c.add_value.new.gathered.points.items c.loop-value.invariant.gathers tt c.in_ok-add_value.ensures.gathers;
      counted = c.in_ok-add_value.ensures.counted;
    }

pub add_values-returns-in_err-add_value-clause-gathers : goal.add_values-returns-in_err-add_value-clause-gathers
add_values-returns-in_err-add_value-clause-gathers t c =
    let first = c.args.self.now.first in
    let file = c.args.self.now.file in
    let after = c.args.after.now in
    let values = c.args.values.now in
    let i = c.loop-value.value-index in
    let v = c.value-item.result in
    let old = c.args.gathered.now.points.items in
    let new = c.add_value.new.gathered.points.items in
    let fault = c.in_err-add_value.field-0.0 in
    handed_on (GathersWhere first file (HasSomeValueAlternatives values) after (λ s. inside s 0 (map value_choices values)) old new) c.from_residual.result fault
    c.from_residual.ensures.1
    (loop_fails first file (HasSomeValueAlternatives values) after value_choices values i v c.loop-value-test.true c.value-item.is (IsValueAt v) after
    (leads_value first file after values i v c.loop-value-test.true c.value-item.is) old c.loop-value.gathered.points.items new c.loop-value.invariant.gathers fault
    c.in_err-add_value.ensures.gathers)

pub add_values-returns-clause-gathers : goal.add_values-returns-clause-gathers
add_values-returns-clause-gathers t c =
    let values = c.args.values.now in
    loop_ends c.args.self.now.first c.args.self.now.file (HasSomeValueAlternatives values) c.args.after.now value_choices values c.loop-value.value-index
    c.args.gathered.now.points.items c.loop-value.gathered.points.items tt c.loop-value-test.false c.loop-value.invariant.gathers
