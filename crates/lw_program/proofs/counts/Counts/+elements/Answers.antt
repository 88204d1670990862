use Rattle.std.proofs.Common.{[], ◌∷◌, sym, ap, ◌∙◌, subst}
use Rattle.std.proofs.lemmas.Result.{on_ok_weaker}
use Rattle.lw_grammar.specs.declared.rule.Element.{out-Element}
use Rattle.lw_grammar.specs.declared.rule.Element.TheViews.{outs-Group, outs-Choice, outs-Maybe, outs-Many, outs-Some1}
use Rattle.lw_grammar.specs.declared.rule.Element.TheOpen as layer
use Rattle.lw_look.specs.Sites.{◌▸◌}
use Rattle.lw_program.specs.Counting.{joined_sites, choice_site, element_sites, AreSitesCounted}
use Rattle.lw_program.specs.Filled.{element_want, wants_from, all_sites}
use Rattle.lw_program.proofs.Counted.{both_none, counted_both, counted_point}
use Rattle.lw_program.proofs.Parts.{counted_form, counted_next}
use Rattle.lw_program.proofs.counts.Counts.+elements.Goals as goal

pub pass-returns-in-Group : goal.pass-returns-in-Group
pass-returns-in-Group t c s =
    let at = c.in-Group in
    on_ok_weaker c.pass_all.result (λ rest.
    counted_form s c.args.element.now (layer.Group at.parts at.field-1) (ap out-Element at.is ∙ outs-Group at.parts at.field-1)
    (subst (λ parts. AreSitesCounted (all_sites (wants_from element_want s 0 parts)) c.args.self.now c.pass_all.new.self) c.as_slice.ensures rest)) (c.pass_all.ensures s)

pub pass-returns-in_ok-next_point-in-Choice : goal.pass-returns-in_ok-next_point-in-Choice
pass-returns-in_ok-next_point-in-Choice t c s =
    let at = c.in-Choice in
    on_ok_weaker c.pass_all-in-Choice.result (λ rest.
    counted_form s c.args.element.now (layer.Choice at.parts at.field-1) (ap out-Element at.is ∙ outs-Choice at.parts at.field-1)
    (counted_both (counted_point s c.args.self.now c.next_point.new.self c.in_ok-next_point-in-Choice.ensures.1)
    (subst (λ parts. AreSitesCounted (all_sites (wants_from element_want s 0 parts)) c.next_point.new.self c.pass_all-in-Choice.new.self) c.as_slice-in-Choice.ensures rest)))
    (c.pass_all-in-Choice.ensures s)

pub pass-returns-in-Maybe : goal.pass-returns-in-Maybe
pass-returns-in-Maybe t c s =
    let at = c.in-Maybe in
    on_ok_weaker c.pass_inner.result (λ rest.
    counted_form s c.args.element.now (layer.Maybe at.part at.field-1) (ap out-Element at.is ∙ outs-Maybe at.part at.field-1)
    (subst (λ part. AreSitesCounted (joined_sites (choice_site s) (all_sites (wants_from element_want s 0 (part ∷ [])))) c.args.self.now c.pass_inner.new.self) c.get.ensures rest))
    (c.pass_inner.ensures s)

pub pass-returns-in-Many : goal.pass-returns-in-Many
pass-returns-in-Many t c s =
    let at = c.in-Many in
    on_ok_weaker c.pass_inner-in-Many.result (λ rest.
    counted_form s c.args.element.now (layer.Many at.part at.field-1) (ap out-Element at.is ∙ outs-Many at.part at.field-1)
    (subst (λ part. AreSitesCounted (joined_sites (choice_site s) (all_sites (wants_from element_want s 0 (part ∷ [])))) c.args.self.now c.pass_inner-in-Many.new.self) c.get-in-Many.ensures rest))
    (c.pass_inner-in-Many.ensures s)

pub pass-returns-in-Some1 : goal.pass-returns-in-Some1
pass-returns-in-Some1 t c s =
    let at = c.in-Some1 in
    on_ok_weaker c.pass_inner-in-Some1.result (λ rest.
    counted_form s c.args.element.now (layer.Some1 at.part at.field-1) (ap out-Element at.is ∙ outs-Some1 at.part at.field-1)
    (subst (λ part. AreSitesCounted (joined_sites (choice_site s) (all_sites (wants_from element_want s 0 (part ∷ [])))) c.args.self.now c.pass_inner-in-Some1.new.self) c.get-in-Some1.ensures rest))
    (c.pass_inner-in-Some1.ensures s)

pub pass_all-loop-element-preserved : goal.pass_all-loop-element-preserved
pass_all-loop-element-preserved t c s =
    counted_next element_want s c.args.elements.now c.loop-element.element-index c.element-item.result c.loop-element-test.true c.element-item.is
    (c.loop-element.invariant s) (c.in_ok-pass.ensures (s ▸ c.loop-element.element-index))

pub pass_inner-returns : goal.pass_inner-returns
pass_inner-returns t c s =
    on_ok_weaker c.pass.result (λ rest.
    counted_both (counted_point s c.args.self.now c.next_point.new.self c.in_ok-next_point.ensures.1)
    (subst (λ sites. AreSitesCounted sites c.next_point.new.self c.pass.new.self) (sym (both_none (element_sites (s ▸ 0) c.args.part.now))) rest)) (c.pass.ensures (s ▸ 0))
