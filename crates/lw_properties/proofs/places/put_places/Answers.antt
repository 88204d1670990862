use Rattle.std.proofs.Common.{◌+◌, length, map, slice_get, Some, sym, ap, ◌∙◌, subst, arith}
use Rattle.std.proofs.lemmas.List.{map-append, length-map}
use Rattle.std.proofs.lemmas.Option.{slice_get-map, slice_get-get_or}
use Rattle.std.specs.Option.{option_map}
use Rattle.lw_grammar.specs.Leaves.{leaves}
use Rattle.lw_faults.specs.Finding.{Finds}
use Rattle.lw_numbers.specs.Parts.{leaf_of}
use Rattle.lw_properties.specs.Places.{spot_of}
use Rattle.lw_properties.proofs.Standing.{StandsBefore, none_stands, one_stands, all_stand}
use Rattle.lw_properties.proofs.places.put_places.Goals as goal

pub loop-place-init : goal.loop-place-init
loop-place-init c row at = none_stands c.args.rule.now (leaves c.args.rule.now.body) row

pub loop-place-preserved : goal.loop-place-preserved
loop-place-preserved c row at =
    let rule = c.args.rule.now in
    let i = c.loop-place.place in
    let items = c.deref-leaf-items.result.now in
    let leaf = c.leaf-item.result in
    let there = ap (λ ls. slice_get ls i) (sym (ap (map leaf_of) c.deref-leaf-items.ensures.value ∙ c.in_ok-leaves.ensures))
    ∙ slice_get-map leaf_of items i ∙ ap (option_map leaf_of) (slice_get-get_or items i leaf c.loop-place-test.true ∙ ap Some (sym c.leaf-item.is)) in
    let found = one_stands rule (leaves rule.body) row i (leaf_of leaf) c.before-before.result.now there (c.before-before.ensures row at) (c.loop-place.invariant row at) in
    subst (λ spots. Finds (StandsBefore rule (leaves rule.body) row (i + 1)) (map spot_of c.args.places.now.items) spots)
    (sym (ap (map spot_of) c.in_ok-push.ensures.items ∙ map-append spot_of c.loop-place.places.items _)) found

pub returns : goal.returns
returns c row at =
    let rule = c.args.rule.now in
    let count = ap length (sym (ap (map leaf_of) c.deref-leaf-items.ensures.value ∙ c.in_ok-leaves.ensures)) ∙ length-map c.deref-leaf-items.result.now leaf_of in
    all_stand rule (leaves rule.body) row c.loop-place.place (omega (arith, c.loop-place-test.false, count)) (c.loop-place.invariant row at)
