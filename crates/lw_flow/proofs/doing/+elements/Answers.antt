use Rattle.std.proofs.Common.{◌≡◌, ◌↔◌, List, [], ◌⊎◌, Contains, IfOk, length, refl, sym, ap, ◌∙◌, subst, inl, inr, arith}
use Rattle.std.proofs.lemmas.Option.{slice_get_read}
use Rattle.std.proofs.lemmas.Result.{IfOk-weaker}
use Rattle.lw_grammar.specs.declared.rule.Element.{Element, out-Element}
use Rattle.lw_grammar.specs.declared.rule.Element.TheVariants as element
use Rattle.lw_flow.specs.declared.effect.Effect.{Effect}
use Rattle.lw_flow.specs.declared.effect.Effect.TheVariants.{Nothing, Fills, Acts}
use Rattle.lw_flow.specs.Effects.{type_number}
use Rattle.lw_flow.specs.Passing.{Does, DoesFirst, DoesTurns}
use Rattle.lw_flow.specs.Rows.{InTable}
use Rattle.lw_flow.proofs.SetLemmas.{adds_end}
use Rattle.lw_flow.proofs.DoingLemmas.{via, carry, as_layer, keyword_does, assign_does, act_does, call_does_so, group_does, choice_does, maybe_does, many_does, some_does, turns_do, first_none, row_step, any_step}
use Rattle.lw_flow.proofs.doing.+elements.Goals as goal

pub effects_of-returns-in-Keyword : goal.effects_of-returns-in-Keyword
effects_of-returns-in-Keyword t c =
    let g = c.args.source.now.grammar.now in
    let T = InTable c.args.table.now in
    let is = ap out-Element c.in-Keyword.is ∙ element.outs-Keyword _ _ in
    carry c.alone.result (λ x. x ≡ Nothing) (Does g T c.args.element.now) (λ x. via (keyword_does g T x) (as_layer g T is x)) c.alone.ensures

pub effects_of-returns-in-Call : goal.effects_of-returns-in-Call
effects_of-returns-in-Call t c =
    let g = c.args.source.now.grammar.now in
    let T = InTable c.args.table.now in
    let is = ap out-Element c.in-Call.is ∙ element.outs-Call _ _ in
    IfOk-weaker c.effects_of_call.result _ _ (λ set so x. via (call_does_so g T so x) (as_layer g T is x)) c.effects_of_call.ensures

pub effects_of-returns-in-Assign : goal.effects_of-returns-in-Assign
effects_of-returns-in-Assign t c =
    let g = c.args.source.now.grammar.now in
    let T = InTable c.args.table.now in
    let is = ap out-Element c.in-Assign.is ∙ element.outs-Assign _ _ _ _ in
    carry c.alone-in-Assign.result (λ x. x ≡ Fills) (Does g T c.args.element.now) (λ x. via (assign_does g T x) (as_layer g T is x)) c.alone-in-Assign.ensures

pub effects_of-returns-in-Act : goal.effects_of-returns-in-Act
effects_of-returns-in-Act t c =
    let g = c.args.source.now.grammar.now in
    let T = InTable c.args.table.now in
    let is = ap out-Element c.in-Act.is ∙ element.outs-Act _ in
    carry c.alone-in-Act.result (λ x. x ≡ Acts c.number_of.result) (Does g T c.args.element.now)
    (λ x. via (subst (λ o. (x ≡ Acts o) ↔ (x ≡ Acts (type_number g c.in-Act.action.type_name))) (sym c.number_of.ensures) (λ h. h, λ h. h)) (via (act_does g T x) (as_layer g T is x)))
    c.alone-in-Act.ensures

pub effects_of-returns-in-Group : goal.effects_of-returns-in-Group
effects_of-returns-in-Group t c =
    let g = c.args.source.now.grammar.now in
    let T = InTable c.args.table.now in
    let is = ap out-Element c.in-Group.is ∙ element.outs-Group _ _ in
    carry c.effects_of_row.result (DoesFirst g T c.in-Group.parts (length c.in-Group.parts)) (Does g T c.args.element.now)
    (λ x. via (group_does g T x) (as_layer g T is x))
    (subst (λ (parts : List Element). IfOk c.effects_of_row.result (λ set. (x : Effect) → Contains set.keys x ↔ DoesFirst g T parts (length parts) x)) c.as_slice.ensures
    c.effects_of_row.ensures)

pub effects_of-returns-in-Choice : goal.effects_of-returns-in-Choice
effects_of-returns-in-Choice t c =
    let g = c.args.source.now.grammar.now in
    let T = InTable c.args.table.now in
    let is = ap out-Element c.in-Choice.is ∙ element.outs-Choice _ _ in
    carry c.effects_of_any.result (λ x. Contains {X = Effect} [] x ⊎ ((e : Element) × Contains c.in-Choice.parts e × Does g T e x)) (Does g T c.args.element.now)
    (λ x. via (choice_does g T x) (as_layer g T is x))
    (subst (λ (parts : List Element).
    IfOk c.effects_of_any.result (λ set. (x : Effect) → Contains set.keys x ↔ (Contains {X = Effect} [] x ⊎ ((e : Element) × Contains parts e × Does g T e x))))
    c.as_slice-in-Choice.ensures c.effects_of_any.ensures)

pub effects_of-returns-in-Maybe : goal.effects_of-returns-in-Maybe
effects_of-returns-in-Maybe t c =
    let g = c.args.source.now.grammar.now in
    let T = InTable c.args.table.now in
    let is = ap out-Element c.in-Maybe.is ∙ element.outs-Maybe _ _ in
    let got = c.get.ensures in
    carry c.effects_of_turns.result (DoesTurns g T c.in-Maybe.part) (Does g T c.args.element.now) (λ x. via (maybe_does g T x) (as_layer g T is x))
    (subst (λ (e : Element). IfOk c.effects_of_turns.result (λ set. (x : Effect) → Contains set.keys x ↔ DoesTurns g T e x)) got c.effects_of_turns.ensures)

pub effects_of-returns-in-Many : goal.effects_of-returns-in-Many
effects_of-returns-in-Many t c =
    let g = c.args.source.now.grammar.now in
    let T = InTable c.args.table.now in
    let is = ap out-Element c.in-Many.is ∙ element.outs-Many _ _ in
    let got = c.get-in-Many.ensures in
    carry c.effects_of_turns-in-Many.result (DoesTurns g T c.in-Many.part) (Does g T c.args.element.now) (λ x. via (many_does g T x) (as_layer g T is x))
    (subst (λ (e : Element). IfOk c.effects_of_turns-in-Many.result (λ set. (x : Effect) → Contains set.keys x ↔ DoesTurns g T e x)) got c.effects_of_turns-in-Many.ensures)

pub effects_of-returns-in-Some1 : goal.effects_of-returns-in-Some1
effects_of-returns-in-Some1 t c =
    let g = c.args.source.now.grammar.now in
    let T = InTable c.args.table.now in
    let is = ap out-Element c.in-Some1.is ∙ element.outs-Some1 _ _ in
    let got = c.get-in-Some1.ensures in
    carry c.effects_of.result (Does g T c.in-Some1.part) (Does g T c.args.element.now) (λ x. via (some_does g T x) (as_layer g T is x))
    (subst (λ (e : Element). IfOk c.effects_of.result (λ set. (x : Effect) → Contains set.keys x ↔ Does g T e x)) got c.effects_of.ensures)

pub effects_of_turns-returns : goal.effects_of_turns-returns
effects_of_turns-returns t c x =
    let g = c.args.source.now.grammar.now in
    let T = InTable c.args.table.now in
    via (c.in_ok-put_effect.ensures x)
    (via (
      λ either. elim either [ inl has ↦ inl ((c.in_ok-set.ensures x).0 has) | inr is ↦ inr is ],
      λ either. elim either [ inl may ↦ inl ((c.in_ok-set.ensures x).1 may) | inr is ↦ inr is ],
    ) (turns_do g T x))

pub effects_of_row-loop-part-init : goal.effects_of_row-loop-part-init
effects_of_row-loop-part-init t c x =
    via (c.in_ok-set.ensures x) (first_none c.args.source.now.grammar.now (InTable c.args.table.now) x)

pub effects_of_row-loop-part-preserved : goal.effects_of_row-loop-part-preserved
effects_of_row-loop-part-preserved t c x =
    let parts = c.args.parts.now in
    via (c.in_ok-set-2.ensures x)
    (row_step c.args.source.now.grammar.now (InTable c.args.table.now)
    (slice_get_read parts (length parts) c.loop-part.part-index c.part-item.result refl c.loop-part-test.true c.part-item.is) c.loop-part.set.keys c.in_ok-more.more.keys
    c.as_slice.result.now c.as_slice-in-loop-part.result.now c.as_slice.ensures.keys c.as_slice-in-loop-part.ensures.keys c.loop-part.invariant c.in_ok-more.ensures x)

pub effects_of_row-returns : goal.effects_of_row-returns
effects_of_row-returns t c =
    let parts = c.args.parts.now in
    let g = c.args.source.now.grammar.now in
    let T = InTable c.args.table.now in
    let end : c.loop-part.part-index ≡ length parts = omega (arith, c.loop-part-test.false, c.loop-part.auto) in
    subst (λ n. (x : Effect) → Contains c.loop-part.set.keys x ↔ DoesFirst g T parts n x) end c.loop-part.invariant

pub effects_of_any-loop-part-preserved : goal.effects_of_any-loop-part-preserved
effects_of_any-loop-part-preserved t c =
    any_step c.args.source.now.grammar.now (InTable c.args.table.now) c.args.parts.now c.loop-part.part-index c.part-item.result c.loop-part-test.true c.part-item.is
    c.loop-part.set.keys c.put_all.new.set.keys c.in_ok-more.more.keys c.as_slice.result.now c.in_ok-put_all.ensures.keys c.as_slice.ensures.keys c.in_ok-more.ensures
    c.loop-part.invariant

pub effects_of_any-returns : goal.effects_of_any-returns
effects_of_any-returns t c =
    adds_end (Does c.args.source.now.grammar.now (InTable c.args.table.now)) [] c.loop-part.set.keys c.args.parts.now c.loop-part.part-index c.loop-part-test.false
    c.loop-part.invariant
