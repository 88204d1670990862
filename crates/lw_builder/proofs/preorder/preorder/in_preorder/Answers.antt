use Rattle.std.proofs.Common.{◌∙◌, ap, length, map, arith}
use Rattle.std.proofs.lemmas.Result.{IfOk-weaker}
use Rattle.lw_builder.specs.Renaming.{entry_by_number, reference_by_number}
use Rattle.lw_builder.proofs.Placing.{nested_tree}
use Rattle.lw_builder.proofs.WholeTables.{length-made, values_within, refs_within, same_tree}
use Rattle.lw_builder.proofs.preorder.preorder.in_preorder.Goals as goal

pub numbers-requires-clause-nested : goal.numbers-requires-clause-nested
numbers-requires-clause-nested c =
    let t = c.requires.tables in
    nested_tree c.as_slice.result.now (t.0, c.as_slice.ensures.value ∙ t.1.nodes)

pub values_by_number-values-requires : goal.values_by_number-values-requires
values_by_number-values-requires c =
    let t = c.requires.tables in
    values_within t.0 _ _ _ _ t.1 (ap length c.as_slice-4.ensures.value ∙ c.in_ok-numbers.ensures.as_many ∙ ap length c.as_slice.ensures.value)

pub references_by_number-refs-requires : goal.references_by_number-refs-requires
references_by_number-refs-requires c =
    let t = c.requires.tables in
    refs_within t.0 _ _ _ _ t.1 (ap length c.as_slice-5.ensures.value ∙ c.in_ok-numbers.ensures.as_many ∙ ap length c.as_slice.ensures.value)

pub new-requires-clause-room : goal.new-requires-clause-room
new-requires-clause-room c =
    let t = c.requires.tables in
    let long = length-made t.0 _ _ _ c.in_ok-nodes.nodes.items t.1 (c.in_ok-nodes.ensures t.0 (c.as_slice-2.ensures.value ∙ t.1.nodes)) in
    omega (arith, long, c.requires.room)

pub returns : goal.returns
returns c = λ x tables.
    IfOk-weaker c.new.result _ _
    (λ tree same.
    same_tree x _ _ _ _ c.in_ok-numbers.numbers.items _ _ _ c.args.tokens.items c.args.name tree tables c.in_ok-numbers.ensures c.as_slice.ensures.value
    (c.in_ok-nodes.ensures x (c.as_slice-2.ensures.value ∙ tables.nodes))
    (c.values_by_number-values.ensures ∙ ap (λ ns. map (entry_by_number ns) c.args.values.items) c.as_slice-4.ensures.value)
    (c.references_by_number-refs.ensures ∙ ap (λ ns. map (reference_by_number ns) c.args.refs.items) c.as_slice-5.ensures.value)
    same)
    c.new.ensures
