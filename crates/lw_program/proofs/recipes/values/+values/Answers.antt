use Rattle.std.proofs.Common.{◌≡◌, List, Some, Result, OnOk, length, slice_get, map, refl, sym, ap, ◌∙◌, subst}
use Rattle.std.proofs.lemmas.List.{take_all}
use Rattle.std.proofs.lemmas.Option.{slice_get_read}
use Rattle.std.proofs.lemmas.Result.{on_ok_weaker}
use Rattle.lw_base.specs.declared.memory.NoMemory.{NoMemory}
use Rattle.lw_grammar.specs.declared.grammar.Grammar.{Grammar}
use Rattle.lw_grammar.specs.declared.rule.Value0.{Value0, out-Value0}
use Rattle.lw_grammar.specs.declared.rule.Value0.TheFolds.{map-Value0}
use Rattle.lw_grammar.specs.declared.rule.Value0.TheViews.{outs-Keyword, outs-Call, outs-Cross, outs-Choice}
use Rattle.lw_grammar.specs.declared.rule.Value0.TheOpen as value
use Rattle.lw_grammar.specs.declared.rule.Value0.TheOpen.{Value0-F}
use Rattle.lw_look.specs.Choices.{inside}
use Rattle.lw_look.specs.Sites.{PartSite, ◌▸◌, Value}
use Rattle.lw_program.specs.Numbered.{value_puts, value_layer_puts}
use Rattle.lw_program.specs.Drafted.{AddsFor, ArePartsAt, IsValueRecipe}
use Rattle.lw_program.specs.declared.recipes.recipe.ValueRecipe.{ValueRecipe}
use Rattle.lw_program.proofs.Adding.{adds_both}
use Rattle.lw_program.proofs.Assigned.{part_stands, value_layer_stands, ways_go}
use Rattle.lw_program.proofs.Listed.{value_puts_by, inside_next}
use Rattle.lw_program.proofs.recipes.values.+values.Goals as goal

-- what is put behind for a value of this form
of_form : (g : Grammar) (v : Value0) (f : Value0-F Value0) (s : PartSite) (old new : List ValueRecipe) (result : Result (Unit {0}) NoMemory) → out-Value0 v ≡ f →
    OnOk result (AddsFor (IsValueRecipe g) (value_layer_puts (map-Value0 Value0 (PartSite → List PartSite) value_puts f) s) old new) →
    OnOk result (AddsFor (IsValueRecipe g) (value_puts v s) old new)
of_form g v f s old new result is =
    on_ok_weaker result (subst (λ sites. AddsFor (IsValueRecipe g) sites old new) (sym (ap (λ h. h s) (value_puts_by v f is))))

pub put_value-returns-in-Keyword : goal.put_value-returns-in-Keyword
put_value-returns-in-Keyword t c s goes stands =
    let at = c.in-Keyword in
    of_form c.args.lexicon.g.now c.args.value.now (value.Keyword at.field-0 at.field-1) s c.args.recipes.now.items c.put_single.new.recipes.items c.put_single.result
    (ap out-Value0 at.is ∙ outs-Keyword at.field-0 at.field-1) (c.put_single.ensures s goes stands)

pub put_value-returns-in-Call : goal.put_value-returns-in-Call
put_value-returns-in-Call t c s goes stands =
    let at = c.in-Call in
    of_form c.args.lexicon.g.now c.args.value.now (value.Call at.field-0 at.field-1) s c.args.recipes.now.items c.put_single-in-Call.new.recipes.items
    c.put_single-in-Call.result
    (ap out-Value0 at.is ∙ outs-Call at.field-0 at.field-1) (c.put_single-in-Call.ensures s goes stands)

pub put_value-returns-in-Cross : goal.put_value-returns-in-Cross
put_value-returns-in-Cross t c s goes stands =
    let at = c.in-Cross in
    of_form c.args.lexicon.g.now c.args.value.now (value.Cross at.field-0 at.field-1 at.field-2) s c.args.recipes.now.items c.put_single-in-Cross.new.recipes.items
    c.put_single-in-Cross.result
    (ap out-Value0 at.is ∙ outs-Cross at.field-0 at.field-1 at.field-2) (c.put_single-in-Cross.ensures s goes stands)

pub put_value-returns-in-Choice : goal.put_value-returns-in-Choice
put_value-returns-in-Choice t c s goes stands =
    let g = c.args.lexicon.g.now in
    let v = c.args.value.now in
    let at = c.in-Choice in
    let is = ap out-Value0 at.is ∙ outs-Choice at.ways at.field-1 in
    let same = sym c.as_slice.ensures in
    of_form g v (value.Choice at.ways at.field-1) s c.args.recipes.now.items c.put_ways.new.recipes.items c.put_ways.result is
    (subst (λ ways. OnOk c.put_ways.result (AddsFor (IsValueRecipe g) (inside s 0 (map value_puts ways)) c.args.recipes.now.items c.put_ways.new.recipes.items))
    c.as_slice.ensures
    (c.put_ways.ensures s (ways_go g c.args.target s v at.ways at.field-1 is goes stands)
    (subst (λ ways. ArePartsAt g s (map Value ways)) same (value_layer_stands g s v (value.Choice at.ways at.field-1) is stands))))

pub put_ways-loop-way-preserved : goal.put_ways-loop-way-preserved
put_ways-loop-way-preserved t c s go stand =
    let g = c.args.lexicon.g.now in
    let ways = c.args.ways.now in
    let i = c.loop-way.way-index in
    let way = c.way-item.result in
    let at : slice_get ways i ≡ Some way = slice_get_read ways (length ways) i way refl c.loop-way-test.true c.way-item.is in
    subst (λ sites. AddsFor (IsValueRecipe g) sites c.args.recipes.now.items c.put_value.new.recipes.items) (sym (inside_next value_puts s ways i way at))
    (adds_both (IsValueRecipe g) (c.loop-way.invariant s go stand) (c.in_ok-put_value.ensures (s ▸ i) (go i) (part_stands g Value s ways i way stand at)))

pub put_ways-returns : goal.put_ways-returns
put_ways-returns t c s go stand =
    let g = c.args.lexicon.g.now in
    subst (λ ways. AddsFor (IsValueRecipe g) (inside s 0 (map value_puts ways)) c.args.recipes.now.items c.loop-way.recipes.items)
    (take_all c.loop-way.way-index c.args.ways.now c.loop-way-test.false) (c.loop-way.invariant s go stand)
