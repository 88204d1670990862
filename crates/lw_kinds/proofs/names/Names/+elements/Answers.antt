use Rattle.std.proofs.Common.{inl, inr, refl, subst}
use Rattle.std.specs.List.{flat_map}
use Rattle.std.proofs.lemmas.Result.{on_ok_weaker}
use Rattle.lw_grammar.specs.declared.rule.Element.TheVariants as element
use Rattle.lw_grammar.specs.Leaves.{leaves}
use Rattle.lw_grammar.proofs.LeafLemmas.{leaves-Call, leaves-Assign}
use Rattle.lw_numbers.proofs.Equations.{leaves_of-Group, leaves_of-Choice}
use Rattle.lw_kinds.specs.declared.gathering.Gathered.{Gathered}
use Rattle.lw_kinds.specs.Gathering.{GathersLeaves}
use Rattle.lw_kinds.proofs.GatherForms.{element_gathers, call_marked, assigned, elements_more}
use Rattle.lw_kinds.proofs.names.Names.+elements.Goals as goal

pub add_element-returns-in-Call : goal.add_element-returns-in-Call
add_element-returns-in-Call t c =
    let g = c.args.self.now.g.now in
    let file = c.args.file in
    let old = c.args.gathered.now in
    let new : Gathered = record { keywords = old.keywords; called = c.mark.new.called } in
    element_gathers g file old new (element.Call c.in-Call.name c.in-Call.field-1) _ c.in-Call.is (leaves-Call c.in-Call.name c.in-Call.field-1)
    (call_marked g file old new c.in-Call.name c.in-Call.field-1 refl c.mark.ensures)

pub add_element-returns-in-Assign : goal.add_element-returns-in-Assign
add_element-returns-in-Assign t c =
    let g = c.args.self.now.g.now in
    let file = c.args.file in
    let old = c.args.gathered.now in
    let new = c.add_value.new.gathered in
    let assign = c.in-Assign in
    on_ok_weaker c.add_value.result
    (λ gathers. element_gathers g file old new (element.Assign assign.field-0 assign.field-1 assign.value assign.field-3) _ assign.is
    (leaves-Assign assign.field-0 assign.field-1 assign.value assign.field-3)
    (assigned g file old new assign.field-0 assign.field-1 assign.value assign.field-3 gathers))
    c.add_value.ensures

pub add_element-returns-in-Group : goal.add_element-returns-in-Group
add_element-returns-in-Group t c =
    let g = c.args.self.now.g.now in
    let file = c.args.file in
    let old = c.args.gathered.now in
    let new = c.add_elements.new.gathered in
    let parts = c.in-Group.parts in
    on_ok_weaker c.add_elements.result
    (λ gathers.
    let all = subst (λ es. GathersLeaves g file (flat_map leaves es) old new) c.as_slice.ensures gathers in
    elim c.in-Group.is [
      | inl (s, is) ↦ element_gathers g file old new (element.Group parts s) _ is (leaves_of-Group parts s) all
      | inr (s, is) ↦ element_gathers g file old new (element.Choice parts s) _ is (leaves_of-Choice parts s) all
    ])
    c.add_elements.ensures

pub add_elements-loop-element-preserved : goal.add_elements-loop-element-preserved
add_elements-loop-element-preserved t c =
    elements_more c.args.self.now.g.now c.args.file c.args.gathered.now c.args.elements.now c.loop-element.element-index c.element-item.result c.loop-element-test.true
    c.element-item.is c.loop-element.gathered c.add_element.new.gathered c.loop-element.invariant c.in_ok-add_element.ensures
