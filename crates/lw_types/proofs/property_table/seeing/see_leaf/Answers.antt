use Rattle.std.proofs.Common.{sym, subst}
use Rattle.lw_faults.specs.Properties.{is_list}
use Rattle.lw_numbers.specs.Parts.{leaf_of}
use Rattle.lw_grammar.specs.Leaves.{Call, Keyword}
use Rattle.lw_types.specs.Sightings.{SeenAtLeaf, sightings, prop_number}
use Rattle.lw_types.specs.Sightings as along
use Rattle.lw_types.specs.Seeing.{Sees}
use Rattle.lw_types.proofs.Adding.{sees_nothing, adds_as}
use Rattle.lw_types.proofs.Meeting.{ok_then}
use Rattle.lw_types.proofs.property_table.seeing.see_leaf.Goals as goal

pub returns-in_ok-values-in-Assign : goal.returns-in_ok-values-in-Assign
returns-in_ok-values-in-Assign c =
    let g = c.args.source.now.g.now in
    let wanted = c.args.wanted.now in
    let before = c.args.before.now in
    let l = c.in-Assign in
    let values = c.in_ok-values-in-Assign.values.items in
    ok_then c.put_into_all.result (λ adds. subst (λ x. Sees wanted (SeenAtLeaf g (leaf_of x) before) c.args.gatherings.now c.put_into_all.new.gatherings) (sym l.is)
    (record {
      more = sightings before.current.items (prop_number g l.property.now) (is_list l.op) values;
      gives = along.assigned values c.in_ok-values-in-Assign.ensures;
      adds = adds_as wanted c.as_slice-in-Assign.ensures.value (c.prop.ensures g c.requires.numbers) c.is_list.ensures c.as_slice.ensures.value adds;
    })) c.put_into_all.ensures

pub returns-in-Call : goal.returns-in-Call
returns-in-Call c =
    let g = c.args.source.now.g.now in
    let now = c.args.gatherings.now in
    let l = c.in-Call in
    subst (λ x. Sees c.args.wanted.now (SeenAtLeaf g (leaf_of x) c.args.before.now) now now) (sym l.is)
    (sees_nothing g c.args.wanted.now (Call l.field-0.now l.field-1) c.args.before.now now along.called)

pub returns-in-Keyword : goal.returns-in-Keyword
returns-in-Keyword c =
    let g = c.args.source.now.g.now in
    let now = c.args.gatherings.now in
    let l = c.in-Keyword in
    subst (λ x. Sees c.args.wanted.now (SeenAtLeaf g (leaf_of x) c.args.before.now) now now) (sym l.is)
    (sees_nothing g c.args.wanted.now (Keyword l.field-0.now l.field-1) c.args.before.now now along.keyword)
