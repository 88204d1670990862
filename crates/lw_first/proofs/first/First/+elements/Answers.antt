use Rattle.std.proofs.Common.{◌≡◌, ◌+◌, ◌-◌, drop, length, OnOk, sym, ap, ◌∙◌, subst, arith}
use Rattle.std.proofs.lemmas.List.{take_all, nil_from_length}
use Rattle.std.proofs.lemmas.Result.{on_ok_weaker}
use Rattle.lw_grammar.specs.declared.rule.Element.TheVariants.{outs-Keyword, outs-Call, outs-Assign, outs-Act, outs-Group, outs-Choice, outs-Maybe, outs-Many, outs-Some1}
use Rattle.lw_first.specs.Sets.{AddsHeads, IsAmongHeads}
use Rattle.lw_first.proofs.HeadLemmas.{adds_as, adds_then, adds_to_none}
use Rattle.lw_look.specs.Sites.{Body}
use Rattle.lw_first.specs.Before.{CanBefore, RowCanBefore, ManyCanBefore}
use Rattle.lw_first.specs.Forms.{ChosenBefore, MaybeBefore, OnceBefore}
use Rattle.lw_first.specs.New.{AreNew}
use Rattle.lw_first.proofs.Adding.{some_next}
use Rattle.lw_first.proofs.PartForms.{element_adds}
use Rattle.lw_first.proofs.RowForms.{row_none, row_more, IsRowSet}
use Rattle.lw_first.proofs.Turns.{met_first, met_more, met_all, once_before, IsMet}
use Rattle.lw_first.proofs.first.First.+elements.Goals as goal

pub element-returns-in-Keyword : goal.element-returns-in-Keyword
element-returns-in-Keyword t c kinds are =
    let first = c.args.self.now in
    element_adds first.lexicon.g.now kinds first.k first.heads.now c.args.after.now c.keyword.result c.args.into.now c.keyword.new.into c.in-Keyword.is (outs-Keyword _ _)
    (c.keyword.ensures kinds are)

pub element-returns-in-Call : goal.element-returns-in-Call
element-returns-in-Call t c kinds are =
    let first = c.args.self.now in
    element_adds first.lexicon.g.now kinds first.k first.heads.now c.args.after.now c.call.result c.args.into.now c.call.new.into c.in-Call.is (outs-Call _ _) (c.call.ensures kinds are)

pub element-returns-in-Assign : goal.element-returns-in-Assign
element-returns-in-Assign t c kinds are =
    let first = c.args.self.now in
    element_adds first.lexicon.g.now kinds first.k first.heads.now c.args.after.now c.value.result c.args.into.now c.value.new.into c.in-Assign.is (outs-Assign _ _ _ _)
    (c.value.ensures kinds are)

pub element-returns-in-Act : goal.element-returns-in-Act
element-returns-in-Act t c kinds are =
    let first = c.args.self.now in
    element_adds first.lexicon.g.now kinds first.k first.heads.now c.args.after.now c.put_all.result c.args.into.now c.put_all.new.into c.in-Act.is (outs-Act _) c.put_all.ensures

pub element-returns-in-Group : goal.element-returns-in-Group
element-returns-in-Group t c kinds are =
    let first = c.args.self.now in
    element_adds first.lexicon.g.now kinds first.k first.heads.now c.args.after.now c.row.result c.args.into.now c.row.new.into c.in-Group.is (outs-Group _ _)
    (subst (λ es. OnOk c.row.result (AddsHeads (RowCanBefore first.lexicon.g.now kinds first.k first.heads.now es c.args.after.now) c.args.into.now c.row.new.into)) c.as_slice.ensures
    (c.row.ensures kinds are))

pub element-returns-in-Choice : goal.element-returns-in-Choice
element-returns-in-Choice t c kinds are =
    let first = c.args.self.now in
    element_adds first.lexicon.g.now kinds first.k first.heads.now c.args.after.now c.choice.result c.args.into.now c.choice.new.into c.in-Choice.is (outs-Choice _ _)
    (subst (λ es. OnOk c.choice.result (AddsHeads (ChosenBefore first.lexicon.g.now kinds first.k first.heads.now es c.args.after.now) c.args.into.now c.choice.new.into))
    c.as_slice-in-Choice.ensures (c.choice.ensures kinds are))

pub element-returns-in-Maybe : goal.element-returns-in-Maybe
element-returns-in-Maybe t c kinds are =
    let first = c.args.self.now in
    element_adds first.lexicon.g.now kinds first.k first.heads.now c.args.after.now c.optional.result c.args.into.now c.optional.new.into c.in-Maybe.is (outs-Maybe _ _)
    (subst (λ e. OnOk c.optional.result (AddsHeads (MaybeBefore first.lexicon.g.now kinds first.k first.heads.now e c.args.after.now) c.args.into.now c.optional.new.into)) c.get.ensures
    (c.optional.ensures kinds are))

pub element-returns-in-Many : goal.element-returns-in-Many
element-returns-in-Many t c kinds are =
    let first = c.args.self.now in
    element_adds first.lexicon.g.now kinds first.k first.heads.now c.args.after.now c.repeated.result c.args.into.now c.repeated.new.into c.in-Many.is (outs-Many _ _)
    (subst (λ e. OnOk c.repeated.result (AddsHeads (ManyCanBefore first.lexicon.g.now kinds first.k first.heads.now e c.args.after.now) c.args.into.now c.repeated.new.into))
    c.get-in-Many.ensures (c.repeated.ensures kinds are))

pub element-returns-in-Some1 : goal.element-returns-in-Some1
element-returns-in-Some1 t c kinds are =
    let first = c.args.self.now in
    element_adds first.lexicon.g.now kinds first.k first.heads.now c.args.after.now c.repeated_once.result c.args.into.now c.repeated_once.new.into c.in-Some1.is (outs-Some1 _ _)
    (subst (λ e. OnOk c.repeated_once.result (AddsHeads (OnceBefore first.lexicon.g.now kinds first.k first.heads.now e c.args.after.now) c.args.into.now c.repeated_once.new.into))
    c.get-in-Some1.ensures (c.repeated_once.ensures kinds are))

pub choice-loop-part-preserved : goal.choice-loop-part-preserved
choice-loop-part-preserved t c kinds are =
    let first = c.args.self.now in
    some_next (λ e. CanBefore first.lexicon.g.now kinds first.k first.heads.now (Body e) c.args.after.now) c.args.parts.now c.loop-part.part-index c.part-item.result c.loop-part-test.true
    c.part-item.is c.args.into.now c.loop-part.into c.element.new.into (c.loop-part.invariant kinds are) (c.in_ok-element.ensures kinds are)

pub choice-returns : goal.choice-returns
choice-returns t c kinds are =
    let first = c.args.self.now in
    subst (λ es. AddsHeads (ChosenBefore first.lexicon.g.now kinds first.k first.heads.now es c.args.after.now) c.args.into.now c.loop-part.into)
    (take_all c.loop-part.part-index c.args.parts.now c.loop-part-test.false) (c.loop-part.invariant kinds are)

pub optional-returns : goal.optional-returns
optional-returns t c kinds are =
    on_ok_weaker c.element.result (adds_then c.args.into.now c.insert_all.new.self c.element.new.into c.in_ok-insert_all.ensures.adds) (c.element.ensures kinds are)

pub repeated-turns-init : goal.repeated-turns-init
repeated-turns-init t c =
    let met = c.put_new.new.into in
    let fresh = c.in_ok-fresh.fresh.items in
    let new = subst (λ none. AreNew fresh none met) c.new-met.ensures c.in_ok-fresh.ensures.fresh in
    record {
      count = new.count;
      told = λ kinds are.
          met_first c.args.self.now.lexicon.g.now kinds c.args.self.now.k c.args.self.now.heads.now c.args.part.now c.args.after.now fresh met
          (subst (λ none. AddsHeads (IsAmongHeads c.args.after.now) none met) c.new-met.ensures c.in_ok-fresh.ensures.adds) new;
    }

pub repeated-turns-preserved : goal.repeated-turns-preserved
repeated-turns-preserved t c =
    let first = c.args.self.now in
    let met = c.turns.met in
    let next = c.turn.new.met in
    let more = c.in_ok-fresh-2.fresh.items in
    record {
      count = c.in_ok-fresh-2.ensures.fresh.count ∙ ap (λ n. n + length more) (sym c.len-done.ensures.count);
      told = λ kinds are.
          met_more first.lexicon.g.now kinds first.k first.heads.now c.args.part.now c.args.after.now c.turns.fresh.items met more next (c.turns.invariant.told kinds are)
          (subst (λ fresh. AddsHeads (CanBefore first.lexicon.g.now kinds first.k first.heads.now (Body c.args.part.now) fresh) met next) c.as_slice.ensures.value
          (c.in_ok-fresh-2.ensures.adds kinds are))
          c.in_ok-fresh-2.ensures.fresh;
    }

pub repeated-returns : goal.repeated-returns
repeated-returns t c kinds are =
    let first = c.args.self.now in
    let met = c.turns.met in
    let nothing = nil_from_length c.turns.fresh.items (omega (arith, c.turns.invariant.count, c.len.ensures.count, c.turns-test.false)) in
    let all = subst (λ fresh. IsMet first.lexicon.g.now kinds first.k first.heads.now c.args.part.now c.args.after.now fresh met) nothing (c.turns.invariant.told kinds are) in
    on_ok_weaker c.put_all.result
    (adds_as c.args.into.now c.put_all.new.into (met_all first.lexicon.g.now kinds first.k first.heads.now c.args.part.now c.args.after.now met all))
    (subst (λ heads. OnOk c.put_all.result (AddsHeads (IsAmongHeads heads) c.args.into.now c.put_all.new.into)) c.as_slice-2.ensures c.put_all.ensures)

pub repeated_once-returns : goal.repeated_once-returns
repeated_once-returns t c kinds are =
    let first = c.args.self.now in
    let behind = c.repeated.new.into in
    let many = adds_to_none behind
    (subst (λ none. AddsHeads (ManyCanBefore first.lexicon.g.now kinds first.k first.heads.now c.args.part.now c.args.after.now) none behind) c.new-behind.ensures
    (c.in_ok-repeated.ensures kinds are)) in
    on_ok_weaker c.element.result
    (adds_as c.args.into.now c.element.new.into (once_before first.lexicon.g.now kinds first.k first.heads.now c.args.part.now c.args.after.now behind many))
    (subst (λ heads. OnOk c.element.result (AddsHeads (CanBefore first.lexicon.g.now kinds first.k first.heads.now (Body c.args.part.now) heads) c.args.into.now c.element.new.into))
    c.as_slice.ensures (c.element.ensures kinds are))

pub row-parts-init : goal.row-parts-init
row-parts-init t c = record {
  within = omega arith;
  told = λ kinds are.
      row_none c.args.self.now.lexicon.g.now kinds c.args.self.now.k c.args.self.now.heads.now c.args.after.now c.args.parts.now c.insert_all.new.self
      (subst (λ none. AddsHeads (IsAmongHeads c.args.after.now) none c.insert_all.new.self) c.new-behind.ensures c.in_ok-insert_all.ensures.adds);
}

pub row-parts-preserved : goal.row-parts-preserved
row-parts-preserved t c =
    let first = c.args.self.now in
    let parts = c.args.parts.now in
    let part = c.index-parts-left.result in
    let behind = c.parts.behind in
    let before = c.element.new.into in
    let one : c.parts.left ≡ c.parts.left - 1 + 1 = omega (arith, c.parts-test.true) in
    record {
      within = omega (arith, c.parts.invariant.within);
      told = λ kinds are.
          row_more first.lexicon.g.now kinds first.k first.heads.now c.args.after.now parts (c.parts.left - 1) part (omega (arith, c.parts.invariant.within, c.parts-test.true))
          c.index-parts-left.is behind before
          (subst (λ n. IsRowSet first.lexicon.g.now kinds first.k first.heads.now c.args.after.now (drop n parts) behind) one (c.parts.invariant.told kinds are))
          (subst (λ none. AddsHeads (CanBefore first.lexicon.g.now kinds first.k first.heads.now (Body part) behind) none before) c.new-before.ensures
          (subst (λ heads. AddsHeads (CanBefore first.lexicon.g.now kinds first.k first.heads.now (Body part) heads) c.new-before.result before) c.as_slice.ensures
          (c.in_ok-element.ensures kinds are)));
    }

pub row-returns : goal.row-returns
row-returns t c kinds are =
    let first = c.args.self.now in
    let start : c.parts.left ≡ 0 = omega (arith, c.parts-test.false) in
    let all = subst (λ n. IsRowSet first.lexicon.g.now kinds first.k first.heads.now c.args.after.now (drop n c.args.parts.now) c.parts.behind) start (c.parts.invariant.told kinds are) in
    on_ok_weaker c.put_all.result (adds_as c.args.into.now c.put_all.new.into all)
    (subst (λ heads. OnOk c.put_all.result (AddsHeads (IsAmongHeads heads) c.args.into.now c.put_all.new.into)) c.as_slice-2.ensures c.put_all.ensures)

pub turn-returns-clause-adds : goal.turn-returns-clause-adds
turn-returns-clause-adds t c kinds are =
    let first = c.args.self.now in
    let next = c.element.new.into in
    let told = adds_to_none next
    (subst (λ none. AddsHeads (CanBefore first.lexicon.g.now kinds first.k first.heads.now (Body c.args.part.now) c.args.fresh.now) none next) c.new-next.ensures
    (c.in_ok-element.ensures kinds are)) in
    on_ok_weaker c.put_new.result (adds_as c.args.met.now c.put_new.new.into told)
    (subst (λ heads. OnOk c.put_new.result (AddsHeads (IsAmongHeads heads) c.args.met.now c.put_new.new.into)) c.as_slice.ensures c.put_new.ensures.adds)
