use Rattle.std.proofs.Common.{[], get_or, length, map, Some, slice_get, sym, ap, ◌∙◌, subst, arith}
use Rattle.std.proofs.lemmas.Option.{slice_get-get_or}
use Rattle.lw_faults.specs.Finding.{Finds}
use Rattle.lw_properties.specs.Places.{spot_of}
use Rattle.lw_properties.proofs.Standing.{ComesBefore, none_comes, one_comes, all_come}
use Rattle.lw_properties.proofs.places.places.Goals as goal

pub loop-number-init : goal.loop-number-init
loop-number-init c =
    subst (λ spots. Finds (ComesBefore c.args.g.now c.args.ways.now 0) spots (map spot_of c.new-places.result.items)) (ap (map spot_of) c.new-places.ensures.items) (none_comes c.args.g.now c.args.ways.now)

pub put_places-requires-clause-row : goal.put_places-requires-clause-row
put_places-requires-clause-row c row at =
    let i = c.loop-number.number in
    let items = c.as_slice-rule-items.result.now in
    let there = ap (λ rules. slice_get rules i) (sym c.as_slice-rule-items.ensures) ∙ slice_get-get_or items i c.rule-item.result c.loop-number-test.true ∙ ap Some (sym c.rule-item.is) in
    c.requires.shape.entries_of_leaves i c.rule-item.result row there at

pub loop-number-preserved : goal.loop-number-preserved
loop-number-preserved c =
    let i = c.loop-number.number in
    let items = c.as_slice-rule-items.result.now in
    let rows = c.args.ways.now in
    let there = ap (λ rules. slice_get rules i) (sym c.as_slice-rule-items.ensures) ∙ slice_get-get_or items i c.rule-item.result c.loop-number-test.true ∙ ap Some (sym c.rule-item.is) in
    let also = slice_get-get_or rows i _ (omega (arith, c.loop-number-test.true, c.requires.shape.rows_of_rules, ap length c.as_slice-rule-items.ensures)) in
    one_comes c.args.g.now rows i c.rule-item.result (get_or rows i []) there also c.loop-number.invariant (c.in_ok-put_places.ensures (get_or rows i []) also)

pub returns : goal.returns
returns c = record {
  rows = c.args.ways.now;
  ways = c.requires;
  all = all_come c.args.g.now c.args.ways.now c.loop-number.number (omega (arith, c.loop-number-test.false, ap length c.as_slice-rule-items.ensures)) c.loop-number.invariant;
}
