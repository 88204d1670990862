use Rattle.std.proofs.Common.{◌<◌, length, get_or, sym, ap}
use Rattle.std.proofs.lemmas.List.Edits.{map_over_more}
use Rattle.lw_tree.specs.declared.node.Reference.{Reference}
use Rattle.lw_builder.specs.Renaming.{reference_by_number}
use Rattle.lw_builder.proofs.Changing.{next_is, handed_back}
use Rattle.lw_builder.proofs.preorder.references.references_by_number.Goals as goal

pub bounds-numbers-reference : goal.bounds-numbers-reference
bounds-numbers-reference c =
    next_is (reference_by_number c.args.numbers.now) _ _ _ _ _ (λ (r : Reference). r.owner.0 < length c.args.numbers.now) c.loop-reference-test.true
    c.loop-reference.invariant c.deref_mut-reference-items.ensures.value c.requires

pub loop-reference-preserved : goal.loop-reference-preserved
loop-reference-preserved c =
    let this : Reference = get_or c.loop-reference.reference-items c.loop-reference.reference-index c.reference-item.result in
    map_over_more (reference_by_number c.args.numbers.now) _ _ _ this c.loop-reference-test.true c.loop-reference.invariant
    (ap (λ r. get_or c.loop-reference.reference-items c.loop-reference.reference-index r) c.reference-item.is)

pub returns : goal.returns
returns c =
    handed_back (reference_by_number c.args.numbers.now) _ _ _ _ _ c.loop-reference-test.false c.loop-reference.invariant c.deref_mut-reference-items.ensures.value
    (sym c.deref_mut-reference-items.ensures.len)
