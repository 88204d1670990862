use Rattle.std.proofs.Common.{◌≡◌, ◌<◌, ◌∷◌, ◌∙◌, Some, Ok, Err, length, map, slice_get, sym, subst, ap, arith}
use Rattle.std.proofs.lemmas.Option.{slice_get-get_or}
use Rattle.lw_first.specs.Before.{ManyCanBefore}
use Rattle.lw_look.specs.Sites.{◌▸◌}
use Rattle.lw_look.specs.Choices.{element_choices, value_choices, inside}
use Rattle.lw_lookahead.specs.Gathering.{HasRowAt, HasSomeAlternatives, HasAlternatives, HasOptional, HasRepeated, IsElementAt, IsValueAt, GathersWhere, site_alone, with_part}
use Rattle.lw_lookahead.specs.Ways.{HasExactly}
use Rattle.lw_lookahead.proofs.PutSteps.{no_memory_gathers}
use Rattle.lw_lookahead.proofs.ChoiceForms.{element_alone, choices-Assign, choices-Group, choices-Choice, choices-Maybe, choices_repeated}
use Rattle.lw_lookahead.proofs.PointsGatherSteps.{handed_on, gathers_none, gathers_as, gathers_part, outer_fails, outer_then, outer_then_part, loop_begins, loop_ends, loop_goes_on, loop_fails}
use Rattle.lw_lookahead.proofs.LeadForms.{row_at, alternatives_at, optional_at, repeated_at, leads_assigned, leads_alternative, leads_optional, leads_repeated, leads_in_row}
use Rattle.lw_lookahead.proofs.points.walk.Walk.+elements.Goals as goal

pub add_element-returns-in-Keyword-clause-gathers : goal.add_element-returns-in-Keyword-clause-gathers
add_element-returns-in-Keyword-clause-gathers t c =
    let e = c.args.element.now in
    gathers_none c.args.self.now.first c.args.self.now.file (IsElementAt e) c.args.after.now (element_choices e) c.args.gathered.now.points.items tt (λ s. element_alone s e c.in-Keyword.is)

pub add_element-returns-in-Keyword-2-clause-gathers : goal.add_element-returns-in-Keyword-2-clause-gathers
add_element-returns-in-Keyword-2-clause-gathers t c =
    let e = c.args.element.now in
    gathers_none c.args.self.now.first c.args.self.now.file (IsElementAt e) c.args.after.now (element_choices e) c.args.gathered.now.points.items tt (λ s. element_alone s e c.in-Keyword.is)

pub add_element-returns-in-Keyword-3-clause-gathers : goal.add_element-returns-in-Keyword-3-clause-gathers
add_element-returns-in-Keyword-3-clause-gathers t c =
    let e = c.args.element.now in
    gathers_none c.args.self.now.first c.args.self.now.file (IsElementAt e) c.args.after.now (element_choices e) c.args.gathered.now.points.items tt (λ s. element_alone s e c.in-Keyword.is)

pub add_element-returns-in-Assign-clause-gathers : goal.add_element-returns-in-Assign-clause-gathers
add_element-returns-in-Assign-clause-gathers t c =
    let first = c.args.self.now.first in
    let file = c.args.self.now.file in
    let after = c.args.after.now in
    let e = c.args.element.now in
    let old = c.args.gathered.now.points.items in
    let assign = c.in-Assign in
    let new = c.add_value.new.gathered.points.items in
    gathers_as first file (IsElementAt e) after (IsElementAt e) (element_choices e) (λ s. value_choices assign.value (s ▸ 0)) old new c.add_value.result
    (λ g s at. at) (λ s. ap (λ e. element_choices e s) assign.is ∙ choices-Assign s assign.field-0 assign.field-1 assign.value assign.field-3)
    (gathers_part first file (IsElementAt e) after (IsValueAt assign.value) after (value_choices assign.value) old new c.add_value.result
    (leads_assigned first file after e assign.field-0 assign.field-1 assign.value assign.field-3 assign.is) c.add_value.ensures.gathers)

pub add_element-returns-in-Group-clause-gathers : goal.add_element-returns-in-Group-clause-gathers
add_element-returns-in-Group-clause-gathers t c =
    let first = c.args.self.now.first in
    let file = c.args.self.now.file in
    let after = c.args.after.now in
    let e = c.args.element.now in
    let old = c.args.gathered.now.points.items in
    let parts = c.in-Group.parts in
    let span = c.in-Group.field-1 in
    let new = c.add_row.new.gathered.points.items in
    gathers_as first file (IsElementAt e) after (HasRowAt parts) (element_choices e) (λ s. inside s 0 (map element_choices parts)) old new c.add_row.result
    (λ g s. row_at g s e parts span c.in-Group.is) (λ s. ap (λ e. element_choices e s) c.in-Group.is ∙ choices-Group s parts span)
    (subst (λ es. GathersWhere first file (HasRowAt es) after (λ s. inside s 0 (map element_choices es)) old new c.add_row.result) c.as_slice.ensures c.add_row.ensures.gathers)

pub add_element-returns-in_err-put_alternatives-in-Choice-clause-gathers : goal.add_element-returns-in_err-put_alternatives-in-Choice-clause-gathers
add_element-returns-in_err-put_alternatives-in-Choice-clause-gathers t c =
    let first = c.args.self.now.first in
    let file = c.args.self.now.file in
    let after = c.args.after.now in
    let e = c.args.element.now in
    let old = c.args.gathered.now.points.items in
    let parts = c.in-Choice.parts in
    let span = c.in-Choice.span in
    let new = c.put_alternatives.new.gathered.points.items in
    let fault = c.in_err-put_alternatives-in-Choice.field-0.0 in
    handed_on (GathersWhere first file (IsElementAt e) after (element_choices e) old new) c.from_residual.result fault c.from_residual.ensures.1
    (gathers_as first file (IsElementAt e) after (HasAlternatives parts span) (element_choices e) (λ s. s ∷ inside s 0 (map element_choices parts)) old new (Err fault)
    (λ g s. alternatives_at g s e parts span c.in-Choice.is) (λ s. ap (λ e. element_choices e s) c.in-Choice.is ∙ choices-Choice s parts span)
    (outer_fails first file (HasAlternatives parts span) after (λ s. inside s 0 (map element_choices parts)) old new fault
    (subst (λ es. GathersWhere first file (HasAlternatives es span) after site_alone old new (Err fault)) c.as_slice-in-Choice.ensures c.in_err-put_alternatives-in-Choice.ensures.gathers)))

pub add_element-returns-in_ok-put_alternatives-in-Choice-clause-gathers : goal.add_element-returns-in_ok-put_alternatives-in-Choice-clause-gathers
add_element-returns-in_ok-put_alternatives-in-Choice-clause-gathers t c =
    let first = c.args.self.now.first in
    let file = c.args.self.now.file in
    let after = c.args.after.now in
    let e = c.args.element.now in
    let old = c.args.gathered.now.points.items in
    let parts = c.in-Choice.parts in
    let span = c.in-Choice.span in
    let mid = c.put_alternatives.new.gathered.points.items in
    let new = c.add_alternatives.new.gathered.points.items in
    gathers_as first file (IsElementAt e) after (HasAlternatives parts span) (element_choices e) (λ s. s ∷ inside s 0 (map element_choices parts)) old new c.add_alternatives.result
    (λ g s. alternatives_at g s e parts span c.in-Choice.is) (λ s. ap (λ e. element_choices e s) c.in-Choice.is ∙ choices-Choice s parts span)
    (outer_then first file (HasAlternatives parts span) after (λ s. inside s 0 (map element_choices parts)) old mid tt new (HasSomeAlternatives parts) c.add_alternatives.result
    (λ g s at. (span, at))
    (subst (λ es. GathersWhere first file (HasAlternatives es span) after site_alone old mid (Ok tt)) c.as_slice-in-Choice.ensures c.in_ok-put_alternatives-in-Choice.ensures.gathers)
    (subst (λ es. GathersWhere first file (HasSomeAlternatives es) after (λ s. inside s 0 (map element_choices es)) mid new c.add_alternatives.result) c.as_slice-in-Choice-2.ensures
    c.add_alternatives.ensures.gathers))

pub add_element-returns-in_err-put_optional-in-Maybe-clause-gathers : goal.add_element-returns-in_err-put_optional-in-Maybe-clause-gathers
add_element-returns-in_err-put_optional-in-Maybe-clause-gathers t c =
    let first = c.args.self.now.first in
    let file = c.args.self.now.file in
    let after = c.args.after.now in
    let e = c.args.element.now in
    let old = c.args.gathered.now.points.items in
    let part = c.in-Maybe.part in
    let span = c.in-Maybe.span in
    let new = c.put_optional.new.gathered.points.items in
    let fault = c.in_err-put_optional-in-Maybe.field-0.0 in
    handed_on (GathersWhere first file (IsElementAt e) after (element_choices e) old new) c.from_residual-in_err-put_optional-in-Maybe.result fault c.from_residual-in_err-put_optional-in-Maybe.ensures.1
    (gathers_as first file (IsElementAt e) after (HasOptional part span) (element_choices e) (with_part part) old new (Err fault)
    (λ g s. optional_at g s e part span c.in-Maybe.is) (λ s. ap (λ e. element_choices e s) c.in-Maybe.is ∙ choices-Maybe s part span)
    (outer_fails first file (HasOptional part span) after (λ s. element_choices part (s ▸ 0)) old new fault
    (subst (λ p. GathersWhere first file (HasOptional p span) after site_alone old new (Err fault)) c.get.ensures c.in_err-put_optional-in-Maybe.ensures.gathers)))

pub add_element-returns-in_ok-put_optional-in-Maybe-clause-gathers : goal.add_element-returns-in_ok-put_optional-in-Maybe-clause-gathers
add_element-returns-in_ok-put_optional-in-Maybe-clause-gathers t c =
    let first = c.args.self.now.first in
    let file = c.args.self.now.file in
    let after = c.args.after.now in
    let e = c.args.element.now in
    let old = c.args.gathered.now.points.items in
    let part = c.in-Maybe.part in
    let span = c.in-Maybe.span in
    let mid = c.put_optional.new.gathered.points.items in
    let new = c.add_element.new.gathered.points.items in
    gathers_as first file (IsElementAt e) after (HasOptional part span) (element_choices e) (with_part part) old new c.add_element.result
    (λ g s. optional_at g s e part span c.in-Maybe.is) (λ s. ap (λ e. element_choices e s) c.in-Maybe.is ∙ choices-Maybe s part span)
    (outer_then_part first file (HasOptional part span) after (element_choices part) old mid new tt (IsElementAt part) after c.add_element.result
    (leads_optional first file after part span)
    (subst (λ p. GathersWhere first file (HasOptional p span) after site_alone old mid (Ok tt)) c.get.ensures c.in_ok-put_optional-in-Maybe.ensures.gathers)
    (subst (λ p. GathersWhere first file (IsElementAt p) after (element_choices p) mid new c.add_element.result) c.get-in-Maybe.ensures c.add_element.ensures.gathers))

pub add_element-returns-in-Many-clause-gathers : goal.add_element-returns-in-Many-clause-gathers
add_element-returns-in-Many-clause-gathers t c =
    let first = c.args.self.now.first in
    let file = c.args.self.now.file in
    let after = c.args.after.now in
    let e = c.args.element.now in
    let old = c.args.gathered.now.points.items in
    let part = c.in-Many.part in
    let span = c.in-Many.span in
    let new = c.add_repeated.new.gathered.points.items in
    gathers_as first file (IsElementAt e) after (HasRepeated part span) (element_choices e) (with_part part) old new c.add_repeated.result
    (λ g s. repeated_at g s e part span c.in-Many.is) (λ s. choices_repeated s e part span c.in-Many.is)
    (subst (λ p. GathersWhere first file (HasRepeated p span) after (with_part p) old new c.add_repeated.result) c.get-in-Many.ensures c.add_repeated.ensures.gathers)

pub add_repeated-put_repeated-requires-clause-again : goal.add_repeated-put_repeated-requires-clause-again
add_repeated-put_repeated-requires-clause-again t c =
    let first = c.args.self.now.first in
    λ kinds are.
    subst (HasExactly (ManyCanBefore first.lexicon.g.now kinds first.k first.heads.now c.args.part.now c.args.after.now)) (sym c.as_slice.ensures) (c.in_ok-again.ensures kinds are)

pub add_repeated-returns-in_err-put_repeated-clause-gathers : goal.add_repeated-returns-in_err-put_repeated-clause-gathers
add_repeated-returns-in_err-put_repeated-clause-gathers t c =
    let first = c.args.self.now.first in
    let file = c.args.self.now.file in
    let after = c.args.after.now in
    let old = c.args.gathered.now.points.items in
    let part = c.args.part.now in
    let new = c.put_repeated.new.gathered.points.items in
    let fault = c.in_err-put_repeated.field-0.0 in
    handed_on (GathersWhere first file (HasRepeated part c.args.span) after (with_part part) old new) c.from_residual-in_err-put_repeated.result fault
    c.from_residual-in_err-put_repeated.ensures.1
    (outer_fails first file (HasRepeated part c.args.span) after (λ s. element_choices part (s ▸ 0)) old new fault c.in_err-put_repeated.ensures.gathers)

pub add_repeated-returns-clause-gathers : goal.add_repeated-returns-clause-gathers
add_repeated-returns-clause-gathers t c =
    let first = c.args.self.now.first in
    let file = c.args.self.now.file in
    let after = c.args.after.now in
    let old = c.args.gathered.now.points.items in
    let part = c.args.part.now in
    let mid = c.put_repeated.new.gathered.points.items in
    let new = c.add_element.new.gathered.points.items in
    outer_then_part first file (HasRepeated part c.args.span) after (element_choices part) old mid new tt (IsElementAt part) c.in_ok-again.again c.add_element.result
    (leads_repeated first file after part c.args.span c.in_ok-again.again c.in_ok-again.ensures) c.in_ok-put_repeated.ensures.gathers
    (subst (λ again. GathersWhere first file (IsElementAt part) again (element_choices part) mid new c.add_element.result) c.as_slice-2.ensures c.add_element.ensures.gathers)

pub add_alternatives-loop-part-init : goal.add_alternatives-loop-part-init
add_alternatives-loop-part-init t c =
    let parts = c.args.parts.now in
    record {
      gathers = loop_begins c.args.self.now.first c.args.self.now.file (HasSomeAlternatives parts) c.args.after.now element_choices parts c.args.gathered.now.points.items;
      counted = c.requires.counted;
    }

pub add_alternatives-loop-part-preserved : goal.add_alternatives-loop-part-preserved
add_alternatives-loop-part-preserved t c =
    let first = c.args.self.now.first in
    let file = c.args.self.now.file in
    let after = c.args.after.now in
    let old = c.args.gathered.now.points.items in
    let parts = c.args.parts.now in
    let i = c.loop-part.part-index in
    let e = c.part-item.result in
    record {
      gathers = loop_goes_on first file (HasSomeAlternatives parts) after element_choices parts i e c.loop-part-test.true c.part-item.is (IsElementAt e) after
          (leads_alternative first file after parts i e c.loop-part-test.true c.part-item.is) old c.loop-part.gathered.points.items
          c.add_element.new.gathered.points.items c.loop-part.invariant.gathers tt c.in_ok-add_element.ensures.gathers;
      counted = c.in_ok-add_element.ensures.counted;
    }

pub add_alternatives-returns-in_err-add_element-clause-gathers : goal.add_alternatives-returns-in_err-add_element-clause-gathers
add_alternatives-returns-in_err-add_element-clause-gathers t c =
    let first = c.args.self.now.first in
    let file = c.args.self.now.file in
    let after = c.args.after.now in
    let old = c.args.gathered.now.points.items in
    let parts = c.args.parts.now in
    let i = c.loop-part.part-index in
    let e = c.part-item.result in
    let new = c.add_element.new.gathered.points.items in
    let fault = c.in_err-add_element.field-0.0 in
    handed_on (GathersWhere first file (HasSomeAlternatives parts) after (λ s. inside s 0 (map element_choices parts)) old new) c.from_residual.result fault
    c.from_residual.ensures.1
    (loop_fails first file (HasSomeAlternatives parts) after element_choices parts i e c.loop-part-test.true c.part-item.is (IsElementAt e) after
    (leads_alternative first file after parts i e c.loop-part-test.true c.part-item.is) old c.loop-part.gathered.points.items new c.loop-part.invariant.gathers fault
    c.in_err-add_element.ensures.gathers)

pub add_alternatives-returns-clause-gathers : goal.add_alternatives-returns-clause-gathers
add_alternatives-returns-clause-gathers t c =
    let parts = c.args.parts.now in
    loop_ends c.args.self.now.first c.args.self.now.file (HasSomeAlternatives parts) c.args.after.now element_choices parts c.loop-part.part-index
    c.args.gathered.now.points.items c.loop-part.gathered.points.items tt c.loop-part-test.false c.loop-part.invariant.gathers

pub add_row-returns-in_err-behind-clause-gathers : goal.add_row-returns-in_err-behind-clause-gathers
add_row-returns-in_err-behind-clause-gathers t c =
    let first = c.args.self.now.first in
    let old = c.args.gathered.now.points.items in
    λ kinds followers s are at follows.
    no_memory_gathers first.lexicon.g.now kinds first.k first.heads.now followers (inside s 0 (map element_choices c.args.parts.now)) old old c.from_residual.result c.from_residual.ensures.1

pub add_row-index-requires : goal.add_row-index-requires
add_row-index-requires t c =
    let known = c.requires.ready.lexicon.kinds in
    let all = (c.in_ok-behind.ensures known.kinds known.are).all in
    omega (arith, all, c.loop-number-test.true)

pub add_row-loop-number-init : goal.add_row-loop-number-init
add_row-loop-number-init t c =
    let parts = c.args.parts.now in
    record {
      gathers = loop_begins c.args.self.now.first c.args.self.now.file (HasRowAt parts) c.args.after.now element_choices parts c.args.gathered.now.points.items;
      counted = c.requires.counted;
    }

pub add_row-loop-number-preserved : goal.add_row-loop-number-preserved
add_row-loop-number-preserved t c =
    let first = c.args.self.now.first in
    let file = c.args.self.now.file in
    let after = c.args.after.now in
    let old = c.args.gathered.now.points.items in
    let parts = c.args.parts.now in
    let i = c.loop-number.number in
    let e = c.index-parts-number.result in
    let sets = c.in_ok-behind.behind.items in
    let known = c.requires.ready.lexicon.kinds in
    let inside_sets : i < length sets = omega (arith, (c.in_ok-behind.ensures known.kinds known.are).all, c.loop-number-test.true) in
    let set_there : slice_get sets i ≡ Some c.as_slice.result.now = slice_get-get_or sets i c.index.result.now inside_sets ∙ ap Some (sym c.index.ensures ∙ sym c.as_slice.ensures) in
    record {
      gathers = loop_goes_on first file (HasRowAt parts) after element_choices parts i e c.loop-number-test.true c.index-parts-number.is (IsElementAt e) c.as_slice.result.now
          (leads_in_row first file after parts sets i e c.as_slice.result.now c.loop-number-test.true c.index-parts-number.is set_there c.in_ok-behind.ensures) old c.loop-number.gathered.points.items
          c.add_element.new.gathered.points.items c.loop-number.invariant.gathers tt c.in_ok-add_element.ensures.gathers;
      counted = c.in_ok-add_element.ensures.counted;
    }

pub add_row-returns-in_err-add_element-clause-gathers : goal.add_row-returns-in_err-add_element-clause-gathers
add_row-returns-in_err-add_element-clause-gathers t c =
    let first = c.args.self.now.first in
    let file = c.args.self.now.file in
    let after = c.args.after.now in
    let old = c.args.gathered.now.points.items in
    let parts = c.args.parts.now in
    let i = c.loop-number.number in
    let e = c.index-parts-number.result in
    let new = c.add_element.new.gathered.points.items in
    let fault = c.in_err-add_element.field-0.0 in
    let sets = c.in_ok-behind.behind.items in
    let known = c.requires.ready.lexicon.kinds in
    let inside_sets : i < length sets = omega (arith, (c.in_ok-behind.ensures known.kinds known.are).all, c.loop-number-test.true) in
    let set_there : slice_get sets i ≡ Some c.as_slice.result.now = slice_get-get_or sets i c.index.result.now inside_sets ∙ ap Some (sym c.index.ensures ∙ sym c.as_slice.ensures) in
    handed_on (GathersWhere first file (HasRowAt parts) after (λ s. inside s 0 (map element_choices parts)) old new) c.from_residual-in_err-add_element.result fault
    c.from_residual-in_err-add_element.ensures.1
    (loop_fails first file (HasRowAt parts) after element_choices parts i e c.loop-number-test.true c.index-parts-number.is (IsElementAt e) c.as_slice.result.now
    (leads_in_row first file after parts sets i e c.as_slice.result.now c.loop-number-test.true c.index-parts-number.is set_there c.in_ok-behind.ensures) old c.loop-number.gathered.points.items new c.loop-number.invariant.gathers fault
    c.in_err-add_element.ensures.gathers)

pub add_row-returns-clause-gathers : goal.add_row-returns-clause-gathers
add_row-returns-clause-gathers t c =
    let parts = c.args.parts.now in
    loop_ends c.args.self.now.first c.args.self.now.file (HasRowAt parts) c.args.after.now element_choices parts c.loop-number.number
    c.args.gathered.now.points.items c.loop-number.gathered.points.items tt c.loop-number-test.false c.loop-number.invariant.gathers
