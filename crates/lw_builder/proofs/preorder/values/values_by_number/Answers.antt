use Rattle.std.proofs.Common.{length, get_or, sym, ap, ◌∙◌}
use Rattle.std.proofs.Math.ListN.{set}
use Rattle.std.specs.Prelude.{slice_index}
use Rattle.std.proofs.lemmas.List.Edits.{map_over_more}
use Rattle.lw_base.specs.declared.numbers.NodeId.{NodeId}
use Rattle.lw_base.specs.declared.numbers.PropId.{PropId}
use Rattle.lw_tree.specs.declared.node.Value.{Value}
use Rattle.lw_builder.specs.Renaming.{HasPlaces, entry_by_number}
use Rattle.lw_builder.proofs.Changing.{next_is, handed_back}
use Rattle.lw_builder.proofs.preorder.values.values_by_number.Goals as goal

pub bounds-numbers-own : goal.bounds-numbers-own
bounds-numbers-own c =
    (next_is (entry_by_number c.args.numbers.now) _ _ _ _ c.own-item.result (HasPlaces (length c.args.numbers.now)) c.loop-own-test.true c.loop-own.invariant
    c.deref_mut-own-items.ensures.value c.requires).0

pub name_by_number-requires : goal.name_by_number-requires
name_by_number-requires c =
    (next_is (entry_by_number c.args.numbers.now) _ _ _ _ c.own-item.result (HasPlaces (length c.args.numbers.now)) c.loop-own-test.true c.loop-own.invariant
    c.deref_mut-own-items.ensures.value c.requires).1

pub loop-own-preserved : goal.loop-own-preserved
loop-own-preserved c =
    let this : NodeId × PropId × Value = get_or c.loop-own.own-items c.loop-own.own-index c.own-item.result in
    let own : NodeId = record { 0 = slice_index c.args.numbers.now this.0.0 } in
    let as_set : Value → _ = λ v. set c.loop-own.own-items c.loop-own.own-index (own, this.1, v) in
    ap as_set c.name_by_number.ensures
    ∙ map_over_more (entry_by_number c.args.numbers.now) _ _ _ this c.loop-own-test.true c.loop-own.invariant
    (ap (λ e. get_or c.loop-own.own-items c.loop-own.own-index e) c.own-item.is)

pub returns : goal.returns
returns c =
    handed_back (entry_by_number c.args.numbers.now) _ _ _ _ _ c.loop-own-test.false c.loop-own.invariant c.deref_mut-own-items.ensures.value
    (sym c.deref_mut-own-items.ensures.len)
