use Rattle.std.proofs.Common.{◌+◌, [], ◌∷◌, ◌++◌, map, take, sym, ap, ◌∙◌, subst, arith}
use Rattle.std.proofs.lemmas.List.{map-append, take_more}
use Rattle.lw_numbers.specs.Parts.{value_leaf_of}
use Rattle.lw_types.specs.Seeing.{list_of}
use Rattle.lw_types.specs.Values.{PartsGive}
use Rattle.lw_types.specs.Values as give
use Rattle.lw_types.proofs.Giving.{parts_more}
use Rattle.lw_types.proofs.property_table.parts.part_values.Goals as goal

pub loop-part-init : goal.loop-part-init
loop-part-init c = subst (PartsGive c.args.source.now.g.now []) (sym c.new-values.ensures.items) give.none

pub loop-part-preserved : goal.loop-part-preserved
loop-part-preserved c =
    let g = c.args.source.now.g.now in
    let i = c.loop-part.part-index in
    let items = c.deref-part-items.result.now in
    let x = c.part-item.result in
    let values = c.loop-part.values.items ++ list_of c.part_value.result in
    let longer = ap (map value_leaf_of) (take_more items i x (omega arith) ∙ ap (λ y. take i items ++ y ∷ []) (sym c.part-item.is)) ∙ map-append value_leaf_of (take i items) (x ∷ []) in
    subst (PartsGive g (map value_leaf_of (take (i + 1) items))) (sym c.in_ok-put_value.ensures)
    (subst (λ xs. PartsGive g xs values) (sym longer) (parts_more g (value_leaf_of x) c.loop-part.invariant c.part_value.ensures))
