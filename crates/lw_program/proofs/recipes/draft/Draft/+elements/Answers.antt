use Rattle.std.proofs.Common.{rules, ◌≡◌, Some, length, slice_get, map, refl, ap, ◌∙◌, subst}
use Rattle.std.proofs.lemmas.List.{take_all}
use Rattle.std.proofs.lemmas.Option.{slice_get_read}
use Rattle.std.proofs.lemmas.Result.{on_ok_weaker}
use Rattle.lw_grammar.specs.declared.rule.Element.{out-Element, the_lemmas}
use Rattle.lw_grammar.specs.declared.rule.Element.TheOpen as layer
use Rattle.lw_grammar.specs.declared.rule.Element.TheViews.{outs-Keyword, outs-Call, outs-Assign, outs-Act, outs-Group, outs-Choice, outs-Maybe, outs-Many, outs-Some1}
use Rattle.lw_look.specs.Choices.{inside}
use Rattle.lw_look.specs.Sites.{◌▸◌, Body, Value}
use Rattle.lw_program.specs.Numbered.{element_puts, element_acts}
use Rattle.lw_program.specs.Drafted.{IsActionRecipe, IsDrafted, IsValueRecipe}
use Rattle.lw_program.proofs.Adding.{adds_none, adds_one}
use Rattle.lw_program.proofs.Assigned.{element_stands, is_action_recipe, layer_stands, part_stands, value_goes}
use Rattle.lw_program.proofs.Drafting.{drafts_form, drafts_next, drafts_none, drafts_part, drafts_row, part_somewhere, row_somewhere}
use Rattle.lw_program.proofs.NamedIn.{property_of_action, property_of_assignment, type_of_action}
use Rattle.lw_program.proofs.recipes.draft.Draft.+elements.Goals as goal

pub pass-returns-in-Keyword : goal.pass-returns-in-Keyword
pass-returns-in-Keyword t c s stands =
    let at = c.in-Keyword in
    drafts_form c.args.lexicon.g.now s c.args.element.now (layer.Keyword at.field-0 at.field-1) (ap out-Element at.is ∙ outs-Keyword at.field-0 at.field-1)
    (drafts_none c.args.lexicon.g.now c.args.self.now)

pub pass-returns-in-Call : goal.pass-returns-in-Call
pass-returns-in-Call t c s stands =
    let at = c.in-Call in
    drafts_form c.args.lexicon.g.now s c.args.element.now (layer.Call at.field-0 at.field-1) (ap out-Element at.is ∙ outs-Call at.field-0 at.field-1)
    (drafts_none c.args.lexicon.g.now c.args.self.now)

pub pass-returns-in-Assign : goal.pass-returns-in-Assign
pass-returns-in-Assign t c s stands =
    let g = c.args.lexicon.g.now in
    let e = c.args.element.now in
    let at = c.in-Assign in
    let form = layer.Assign at.name at.op at.value at.field-3 in
    let is = ap out-Element at.is ∙ outs-Assign at.name at.op at.value at.field-3 in
    on_ok_weaker c.put_value.result
    (λ added. drafts_form g s e form is record { values = added; actions = adds_none (IsActionRecipe g) c.args.self.now.actions.items })
    (c.put_value.ensures (s ▸ 0) (value_goes g (record { prop = c.named_property-prop.result; op = at.op }) s e at.name at.value at.field-3 is c.named_property-prop.ensures stands)
    (layer_stands g s e form is stands 0 (Value at.value) refl))

pub pass-returns-in_ok-push-in-Act : goal.pass-returns-in_ok-push-in-Act
pass-returns-in_ok-push-in-Act t c s stands =
    let g = c.args.lexicon.g.now in
    let e = c.args.element.now in
    let at = c.in-Act in
    let is = ap out-Element at.is ∙ outs-Act at.action in
    drafts_form g s e (layer.Act at.action) is
    record {
      values = adds_none (IsValueRecipe g) c.args.self.now.values.items;
      actions =
          adds_one (IsActionRecipe g) s c.action_recipe.result c.args.self.now.actions.items c.push.new.self.items
          (is_action_recipe g s at.action c.action_recipe.result (element_stands g s e (layer.Act at.action) is stands) c.action_recipe.ensures)
          c.in_ok-push-in-Act.ensures.items;
    }

pub pass-returns-in-Group : goal.pass-returns-in-Group
pass-returns-in-Group t c s stands =
    let at = c.in-Group in
    drafts_row c.args.lexicon.g.now s c.args.element.now (layer.Group at.parts at.field-1) at.parts c.as_slice.result.now _ _ c.pass_all.result
    (ap out-Element at.is ∙ outs-Group at.parts at.field-1) refl refl refl c.as_slice.ensures stands (c.pass_all.ensures s)

pub pass-returns-in-Choice : goal.pass-returns-in-Choice
pass-returns-in-Choice t c s stands =
    let at = c.in-Choice in
    drafts_row c.args.lexicon.g.now s c.args.element.now (layer.Choice at.parts at.field-1) at.parts c.as_slice-in-Choice.result.now _ _ c.pass_all-in-Choice.result
    (ap out-Element at.is ∙ outs-Choice at.parts at.field-1) refl refl refl c.as_slice-in-Choice.ensures stands (c.pass_all-in-Choice.ensures s)

pub pass-returns-in-Maybe : goal.pass-returns-in-Maybe
pass-returns-in-Maybe t c s stands =
    let at = c.in-Maybe in
    drafts_part c.args.lexicon.g.now s c.args.element.now (layer.Maybe at.part at.field-1) at.part c.get.result.now _ _ c.pass.result
    (ap out-Element at.is ∙ outs-Maybe at.part at.field-1) refl refl refl c.get.ensures stands (c.pass.ensures (s ▸ 0))

pub pass-returns-in-Many : goal.pass-returns-in-Many
pass-returns-in-Many t c s stands =
    let at = c.in-Many in
    drafts_part c.args.lexicon.g.now s c.args.element.now (layer.Many at.part at.field-1) at.part c.get-in-Many.result.now _ _ c.pass-in-Many.result
    (ap out-Element at.is ∙ outs-Many at.part at.field-1) refl refl refl c.get-in-Many.ensures stands (c.pass-in-Many.ensures (s ▸ 0))

pub pass-returns-in-Some1 : goal.pass-returns-in-Some1
pass-returns-in-Some1 t c s stands =
    let at = c.in-Some1 in
    drafts_part c.args.lexicon.g.now s c.args.element.now (layer.Some1 at.part at.field-1) at.part c.get-in-Some1.result.now _ _ c.pass-in-Some1.result
    (ap out-Element at.is ∙ outs-Some1 at.part at.field-1) refl refl refl c.get-in-Some1.ensures stands (c.pass-in-Some1.ensures (s ▸ 0))

pub pass_all-loop-element-preserved : goal.pass_all-loop-element-preserved
pass_all-loop-element-preserved t c s stand =
    let g = c.args.lexicon.g.now in
    let elements = c.args.elements.now in
    let i = c.loop-element.element-index in
    let element = c.element-item.result in
    let at : slice_get elements i ≡ Some element = slice_get_read elements (length elements) i element refl c.loop-element-test.true c.element-item.is in
    drafts_next g s elements i element at (c.loop-element.invariant s stand) (c.in_ok-pass.ensures (s ▸ i) (part_stands g Body s elements i element stand at))

pub pass_all-returns : goal.pass_all-returns
pass_all-returns t c s stand =
    let g = c.args.lexicon.g.now in
    subst (λ elements. IsDrafted g (inside s 0 (map element_puts elements)) (inside s 0 (map element_acts elements)) c.args.self.now c.loop-element.self)
    (take_all c.loop-element.element-index c.args.elements.now c.loop-element-test.false) (c.loop-element.invariant s stand)

pub pass-named_property-prop-requires-clause-named : goal.pass-named_property-prop-requires-clause-named
pass-named_property-prop-requires-clause-named t c =
    let at = c.in-Assign in
    property_of_assignment c.args.lexicon.g.now c.args.element.now at.name at.op at.value at.field-3 (ap out-Element at.is ∙ outs-Assign at.name at.op at.value at.field-3)
    c.requires.stands

pub pass-action_recipe-requires-clause-type_named : goal.pass-action_recipe-requires-clause-type_named
pass-action_recipe-requires-clause-type_named t c =
    let at = c.in-Act in
    type_of_action c.args.lexicon.g.now c.args.element.now at.action (ap out-Element at.is ∙ outs-Act at.action) c.requires.stands

pub pass-action_recipe-requires-clause-put_named : goal.pass-action_recipe-requires-clause-put_named
pass-action_recipe-requires-clause-put_named t c =
    let at = c.in-Act in
    property_of_action c.args.lexicon.g.now c.args.element.now at.action (ap out-Element at.is ∙ outs-Act at.action) c.requires.stands

pub pass-pass_all-requires : goal.pass-pass_all-requires
pass-pass_all-requires t c =
    let at = c.in-Group in (
      search (rules, the_lemmas),
      (
        c.requires.known,
        row_somewhere c.args.lexicon.g.now c.args.element.now (layer.Group at.parts at.field-1) at.parts c.as_slice.result.now
            (ap out-Element at.is ∙ outs-Group at.parts at.field-1) refl c.as_slice.ensures c.requires.stands,
      ),
    )

pub pass-pass_all-requires-in-Choice : goal.pass-pass_all-requires-in-Choice
pass-pass_all-requires-in-Choice t c =
    let at = c.in-Choice in (
      search (rules, the_lemmas),
      (
        c.requires.known,
        row_somewhere c.args.lexicon.g.now c.args.element.now (layer.Choice at.parts at.field-1) at.parts c.as_slice-in-Choice.result.now
            (ap out-Element at.is ∙ outs-Choice at.parts at.field-1) refl c.as_slice-in-Choice.ensures c.requires.stands,
      ),
    )

pub pass-pass-requires : goal.pass-pass-requires
pass-pass-requires t c =
    let at = c.in-Maybe in (
      search (rules, the_lemmas),
      (
        c.requires.known,
        part_somewhere c.args.lexicon.g.now c.args.element.now (layer.Maybe at.part at.field-1) at.part c.get.result.now
            (ap out-Element at.is ∙ outs-Maybe at.part at.field-1) refl c.get.ensures c.requires.stands,
      ),
    )

pub pass-pass-requires-in-Many : goal.pass-pass-requires-in-Many
pass-pass-requires-in-Many t c =
    let at = c.in-Many in (
      search (rules, the_lemmas),
      (
        c.requires.known,
        part_somewhere c.args.lexicon.g.now c.args.element.now (layer.Many at.part at.field-1) at.part c.get-in-Many.result.now
            (ap out-Element at.is ∙ outs-Many at.part at.field-1) refl c.get-in-Many.ensures c.requires.stands,
      ),
    )

pub pass-pass-requires-in-Some1 : goal.pass-pass-requires-in-Some1
pass-pass-requires-in-Some1 t c =
    let at = c.in-Some1 in (
      search (rules, the_lemmas),
      (
        c.requires.known,
        part_somewhere c.args.lexicon.g.now c.args.element.now (layer.Some1 at.part at.field-1) at.part c.get-in-Some1.result.now
            (ap out-Element at.is ∙ outs-Some1 at.part at.field-1) refl c.get-in-Some1.ensures c.requires.stands,
      ),
    )

pub pass_all-pass-requires : goal.pass_all-pass-requires
pass_all-pass-requires t c =
    let elements = c.args.elements.now in
    let i = c.loop-element.element-index in
    let element = c.element-item.result in
    let at : slice_get elements i ≡ Some element = slice_get_read elements (length elements) i element refl c.loop-element-test.true c.element-item.is in
    let (s, stand) = c.requires.stand in
    (search (rules, the_lemmas), (c.requires.known, (s ▸ i, part_stands c.args.lexicon.g.now Body s elements i element stand at)))
