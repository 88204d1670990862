use Rattle.std.proofs.Common.{◌↔◌, IsTrue, true≢false, refl, sym, ◌∙◌, subst}
use Rattle.lw_grammar.specs.declared.rule.Element.TheVariants.{outs-Keyword, outs-Call, outs-Assign, outs-Act, outs-Group, outs-Choice, outs-Maybe, outs-Many, outs-Some1}
use Rattle.lw_kinds.specs.Passing.{Passes, EachPasses, SomePass}
use Rattle.lw_kinds.proofs.ReadingPasses.{some_of}
use Rattle.lw_kinds.proofs.PassingForms.{read_there, passes_by, all_of, next_all, over_all, next_some, over_some}
use Rattle.lw_kinds.proofs.derivations.names.Names.+elements.Goals as goal

pub passes-returns-in-Keyword : goal.passes-returns-in-Keyword
passes-returns-in-Keyword t c = passes_by c.args.self.now.g.now c.args.tokens c.args.flags.now c.in-Keyword.is (outs-Keyword _ _) (λ p. p, λ p. p)

pub passes-returns-in-Call : goal.passes-returns-in-Call
passes-returns-in-Call t c = passes_by c.args.self.now.g.now c.args.tokens c.args.flags.now c.in-Call.is (outs-Call _ _) c.call_passes.ensures

pub passes-returns-in-Assign : goal.passes-returns-in-Assign
passes-returns-in-Assign t c = passes_by c.args.self.now.g.now c.args.tokens c.args.flags.now c.in-Assign.is (outs-Assign _ _ _ _) c.value_passes.ensures

pub passes-returns-in-Act : goal.passes-returns-in-Act
passes-returns-in-Act t c = passes_by c.args.self.now.g.now c.args.tokens c.args.flags.now c.in-Act.is (outs-Act _) (λ _. tt, λ _. refl)

pub passes-returns-in-Group : goal.passes-returns-in-Group
passes-returns-in-Group t c =
    passes_by c.args.self.now.g.now c.args.tokens c.args.flags.now c.in-Group.is (outs-Group _ _)
    (subst (λ es. IsTrue c.all_pass.result ↔ EachPasses c.args.self.now.g.now c.args.tokens c.args.flags.now es) c.as_slice.ensures c.all_pass.ensures)

pub passes-returns-in-Choice : goal.passes-returns-in-Choice
passes-returns-in-Choice t c =
    passes_by c.args.self.now.g.now c.args.tokens c.args.flags.now c.in-Choice.is (outs-Choice _ _)
    (subst (λ es. IsTrue c.some_pass.result ↔ SomePass c.args.self.now.g.now c.args.tokens c.args.flags.now es) c.as_slice-in-Choice.ensures c.some_pass.ensures)

pub passes-returns-in-Maybe : goal.passes-returns-in-Maybe
passes-returns-in-Maybe t c = passes_by c.args.self.now.g.now c.args.tokens c.args.flags.now c.in-Maybe.is (outs-Maybe _ _) (λ _. tt, λ _. refl)

pub passes-returns-in-Many : goal.passes-returns-in-Many
passes-returns-in-Many t c = passes_by c.args.self.now.g.now c.args.tokens c.args.flags.now c.in-Many.is (outs-Many _ _) (λ _. tt, λ _. refl)

pub passes-returns-in-Some1 : goal.passes-returns-in-Some1
passes-returns-in-Some1 t c =
    passes_by c.args.self.now.g.now c.args.tokens c.args.flags.now c.in-Some1.is (outs-Some1 _ _)
    (subst (λ e. IsTrue c.passes.result ↔ Passes c.args.self.now.g.now c.args.tokens c.args.flags.now e) c.get.ensures c.passes.ensures)

pub all_pass-returns-then-not-passes : goal.all_pass-returns-then-not-passes
all_pass-returns-then-not-passes t c = (
  λ is. absurd (true≢false (sym is)),
  λ all. absurd (true≢false (sym (c.passes.ensures.1 (all_of c.args.self.now.g.now c.args.tokens c.args.flags.now c.args.elements.now c.element-item.result all
      (read_there c.args.elements.now c.loop-element.element-index c.element-item.result c.loop-element-test.true c.element-item.is))) ∙ c.if-not-passes.true)),
)

pub all_pass-loop-element-preserved : goal.all_pass-loop-element-preserved
all_pass-loop-element-preserved t c = λ others.
    c.loop-element.invariant (next_all c.args.self.now.g.now c.args.tokens c.args.flags.now c.args.elements.now c.loop-element.element-index c.element-item.result
    c.loop-element-test.true c.element-item.is (c.passes.ensures.0 c.if-not-passes.false) others)

pub all_pass-returns : goal.all_pass-returns
all_pass-returns t c = (
  λ _. c.loop-element.invariant (over_all c.args.self.now.g.now c.args.tokens c.args.flags.now c.args.elements.now c.loop-element.element-index c.loop-element-test.false),
  λ _. refl,
)

pub some_pass-returns-then-passes : goal.some_pass-returns-then-passes
some_pass-returns-then-passes t c = (
  λ _. some_of c.args.self.now.g.now c.args.tokens c.args.flags.now c.args.elements.now c.element-item.result
      (read_there c.args.elements.now c.loop-element.element-index c.element-item.result c.loop-element-test.true c.element-item.is) (c.passes.ensures.0 c.if-passes.true),
  λ _. refl,
)

pub some_pass-loop-element-preserved : goal.some_pass-loop-element-preserved
some_pass-loop-element-preserved t c = λ some.
    next_some c.args.self.now.g.now c.args.tokens c.args.flags.now c.args.elements.now c.loop-element.element-index c.element-item.result c.loop-element-test.true c.element-item.is
    (λ does. true≢false (sym (c.passes.ensures.1 does) ∙ c.if-passes.false)) (c.loop-element.invariant some)

pub some_pass-returns : goal.some_pass-returns
some_pass-returns t c = (
  λ is. absurd (true≢false (sym is)),
  λ some. absurd (over_some c.args.self.now.g.now c.args.tokens c.args.flags.now c.args.elements.now c.loop-element.element-index c.loop-element-test.false (c.loop-element.invariant some)),
)
