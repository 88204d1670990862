use Rattle.std.proofs.Common.{map, slice_get, Some, length, sym, ap, ◌∙◌, arith}
use Rattle.std.specs.Option.{option_map}
use Rattle.std.proofs.lemmas.List.{length-map}
use Rattle.std.proofs.lemmas.Option.{slice_get-map, slice_get-get_or}
use Rattle.lw_grammar.specs.Leaves.{leaves}
use Rattle.lw_numbers.specs.Parts.{leaf_of}
use Rattle.lw_types.proofs.Adding.{sees_none, sees_step, sees_all}
use Rattle.lw_types.proofs.property_table.seeing.see_rule.Goals as goal

pub loop-place-init : goal.loop-place-init
loop-place-init c row at = sees_none c.args.wanted.now c.args.gatherings.now

pub loop-place-preserved : goal.loop-place-preserved
loop-place-preserved c row at =
    let i = c.loop-place.place in
    let items = c.deref-leaf-items.result.now in
    let leaf = c.leaf-item.result in
    let there = ap (λ ls. slice_get ls i) (sym (ap (map leaf_of) c.deref-leaf-items.ensures.value ∙ c.in_ok-leaves.ensures))
    ∙ slice_get-map leaf_of items i ∙ ap (option_map leaf_of) (slice_get-get_or items i leaf c.loop-place-test.true ∙ ap Some (sym c.leaf-item.is)) in
    sees_step c.args.wanted.now (leaves c.args.rule.now.body) row i (leaf_of leaf) c.before-before.result.now there (c.before-before.ensures row at) (c.loop-place.invariant row at) c.in_ok-see_leaf.ensures

pub returns : goal.returns
returns c row at =
    let ls = leaves c.args.rule.now.body in
    let count = ap length (sym (ap (map leaf_of) c.deref-leaf-items.ensures.value ∙ c.in_ok-leaves.ensures)) ∙ length-map c.deref-leaf-items.result.now leaf_of in
    sees_all c.args.wanted.now ls row c.loop-place.place (omega (arith, c.loop-place-test.false, count)) (omega (arith, c.loop-place-test.false, count, c.requires.row row at)) (c.loop-place.invariant row at)
