use Rattle.std.proofs.Common.{OnOk, subst}
use Rattle.std.proofs.lemmas.List.{take_all}
use Rattle.lw_grammar.specs.declared.rule.Value0.TheVariants.{outs-Keyword, outs-Call, outs-Cross, outs-Choice}
use Rattle.lw_first.specs.Sets.{AddsHeads}
use Rattle.lw_look.specs.Sites.{Value}
use Rattle.lw_first.specs.Before.{CanBefore}
use Rattle.lw_first.specs.Forms.{ValuesBefore}
use Rattle.lw_first.proofs.Adding.{some_next}
use Rattle.lw_first.proofs.PartForms.{value_adds}
use Rattle.lw_first.proofs.first.First.+values.Goals as goal

pub value-returns-in-Keyword : goal.value-returns-in-Keyword
value-returns-in-Keyword t c kinds are =
    let first = c.args.self.now in
    value_adds first.lexicon.g.now kinds first.k first.heads.now c.args.after.now c.keyword.result c.args.into.now c.keyword.new.into c.in-Keyword.is (outs-Keyword _ _)
    (c.keyword.ensures kinds are)

pub value-returns-in-Call : goal.value-returns-in-Call
value-returns-in-Call t c kinds are =
    let first = c.args.self.now in
    value_adds first.lexicon.g.now kinds first.k first.heads.now c.args.after.now c.call.result c.args.into.now c.call.new.into c.in-Call.is (outs-Call _ _) (c.call.ensures kinds are)

pub value-returns-in-Cross : goal.value-returns-in-Cross
value-returns-in-Cross t c kinds are =
    let first = c.args.self.now in
    value_adds first.lexicon.g.now kinds first.k first.heads.now c.args.after.now c.cross.result c.args.into.now c.cross.new.into c.in-Cross.is (outs-Cross _ _ _)
    (c.cross.ensures kinds are)

pub value-returns-in-Choice : goal.value-returns-in-Choice
value-returns-in-Choice t c kinds are =
    let first = c.args.self.now in
    value_adds first.lexicon.g.now kinds first.k first.heads.now c.args.after.now c.values.result c.args.into.now c.values.new.into c.in-Choice.is (outs-Choice _ _)
    (subst (λ vs. OnOk c.values.result (AddsHeads (ValuesBefore first.lexicon.g.now kinds first.k first.heads.now vs c.args.after.now) c.args.into.now c.values.new.into)) c.as_slice.ensures
    (c.values.ensures kinds are))

pub values-loop-value-preserved : goal.values-loop-value-preserved
values-loop-value-preserved t c kinds are =
    let first = c.args.self.now in
    some_next (λ v. CanBefore first.lexicon.g.now kinds first.k first.heads.now (Value v) c.args.after.now) c.args.values.now c.loop-value.value-index c.value-item.result c.loop-value-test.true
    c.value-item.is c.args.into.now c.loop-value.into c.value.new.into (c.loop-value.invariant kinds are) (c.in_ok-value.ensures kinds are)

pub values-returns : goal.values-returns
values-returns t c kinds are =
    let first = c.args.self.now in
    subst (λ vs. AddsHeads (ValuesBefore first.lexicon.g.now kinds first.k first.heads.now vs c.args.after.now) c.args.into.now c.loop-value.into)
    (take_all c.loop-value.value-index c.args.values.now c.loop-value-test.false) (c.loop-value.invariant kinds are)
