use Rattle.std.proofs.Common.{◌↔◌, IsTrue, true≢false, refl, sym, ◌∙◌, subst}
use Rattle.lw_grammar.specs.declared.rule.Value0.TheVariants.{outs-Keyword, outs-Call, outs-Cross, outs-Choice}
use Rattle.lw_kinds.specs.Passing.{SomeValuePasses}
use Rattle.lw_kinds.proofs.ReadingPasses.{some_value_of}
use Rattle.lw_kinds.proofs.PassingForms.{read_there, value_passes_by, next_value, over_values}
use Rattle.lw_kinds.proofs.derivations.names.Names.+values.Goals as goal

pub value_passes-returns-in-Keyword : goal.value_passes-returns-in-Keyword
value_passes-returns-in-Keyword t c =
    value_passes_by c.args.self.now.g.now c.args.tokens c.args.flags.now c.in-Keyword.is (outs-Keyword _ _) (λ p. p, λ p. p)

pub value_passes-returns-in-Call : goal.value_passes-returns-in-Call
value_passes-returns-in-Call t c =
    value_passes_by c.args.self.now.g.now c.args.tokens c.args.flags.now c.in-Call.is (outs-Call _ _) c.call_passes.ensures

pub value_passes-returns-in-Cross : goal.value_passes-returns-in-Cross
value_passes-returns-in-Cross t c =
    value_passes_by c.args.self.now.g.now c.args.tokens c.args.flags.now c.in-Cross.is (outs-Cross _ _ _) c.cross_passes.ensures

pub value_passes-returns-in-Choice : goal.value_passes-returns-in-Choice
value_passes-returns-in-Choice t c =
    value_passes_by c.args.self.now.g.now c.args.tokens c.args.flags.now c.in-Choice.is (outs-Choice _ _)
    (subst (λ vs. IsTrue c.some_value_passes.result ↔ SomeValuePasses c.args.self.now.g.now c.args.tokens c.args.flags.now vs) c.as_slice.ensures c.some_value_passes.ensures)

pub some_value_passes-returns-then-value_passes : goal.some_value_passes-returns-then-value_passes
some_value_passes-returns-then-value_passes t c = (
  λ _. some_value_of c.args.self.now.g.now c.args.tokens c.args.flags.now c.args.values.now c.value-item.result
      (read_there c.args.values.now c.loop-value.value-index c.value-item.result c.loop-value-test.true c.value-item.is) (c.value_passes.ensures.0 c.if-value_passes.true),
  λ _. refl,
)

pub some_value_passes-loop-value-preserved : goal.some_value_passes-loop-value-preserved
some_value_passes-loop-value-preserved t c = λ some.
    next_value c.args.self.now.g.now c.args.tokens c.args.flags.now c.args.values.now c.loop-value.value-index c.value-item.result c.loop-value-test.true c.value-item.is
    (λ does. true≢false (sym (c.value_passes.ensures.1 does) ∙ c.if-value_passes.false)) (c.loop-value.invariant some)

pub some_value_passes-returns : goal.some_value_passes-returns
some_value_passes-returns t c = (
  λ is. absurd (true≢false (sym is)),
  λ some. absurd (over_values c.args.self.now.g.now c.args.tokens c.args.flags.now c.args.values.now c.loop-value.value-index c.loop-value-test.false (c.loop-value.invariant some)),
)
