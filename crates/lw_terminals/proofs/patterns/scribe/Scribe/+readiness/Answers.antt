use Rattle.std.proofs.Common.{◌↔◌, IsTrue, true≢false, refl, sym, ◌∙◌, subst}
use Rattle.lw_grammar.specs.declared.terminal.TermElement.TheVariants.{outs-Literal, outs-Range, outs-Pattern, outs-Call, outs-Group, outs-Choice, outs-Maybe, outs-Many, outs-Some1}
use Rattle.lw_terminals.specs.Readiness.{ElementIsReady, AreReady}
use Rattle.lw_terminals.specs.Writing.{IsFoundAt}
use Rattle.lw_terminals.proofs.ReadyForms.{read_there, some_parts, ready_by, all_of, next_ready, over_ready}
use Rattle.lw_terminals.proofs.patterns.scribe.Scribe.+readiness.Goals as goal

pub is_ready-returns-in-Literal : goal.is_ready-returns-in-Literal
is_ready-returns-in-Literal t c = ready_by c.args.self.now.g.now (IsFoundAt c.args.self.now.written.now) c.in-Literal.is (outs-Literal _ _) (λ _. tt, λ _. refl)

pub is_ready-returns-in-Range : goal.is_ready-returns-in-Range
is_ready-returns-in-Range t c = ready_by c.args.self.now.g.now (IsFoundAt c.args.self.now.written.now) c.in-Range.is (outs-Range _ _ _) c.has_ends.ensures

pub is_ready-returns-in-Pattern : goal.is_ready-returns-in-Pattern
is_ready-returns-in-Pattern t c = ready_by c.args.self.now.g.now (IsFoundAt c.args.self.now.written.now) c.in-Pattern.is (outs-Pattern _ _) (λ _. tt, λ _. refl)

pub is_ready-returns-in-Call : goal.is_ready-returns-in-Call
is_ready-returns-in-Call t c = ready_by c.args.self.now.g.now (IsFoundAt c.args.self.now.written.now) c.in-Call.is (outs-Call _ _) c.calls_known.ensures

pub is_ready-returns-in-Group : goal.is_ready-returns-in-Group
is_ready-returns-in-Group t c =
    ready_by c.args.self.now.g.now (IsFoundAt c.args.self.now.written.now) c.in-Group.is (outs-Group _)
    (subst (λ es. IsTrue c.are_ready.result ↔ AreReady c.args.self.now.g.now (IsFoundAt c.args.self.now.written.now) es) c.as_slice.ensures c.are_ready.ensures)

pub is_ready-returns-then-not-is_empty : goal.is_ready-returns-then-not-is_empty
is_ready-returns-then-not-is_empty t c =
    let are = subst (λ es. IsTrue c.are_ready-then-not-is_empty.result ↔ AreReady c.args.self.now.g.now (IsFoundAt c.args.self.now.written.now) es)
    c.as_slice-then-not-is_empty.ensures c.are_ready-then-not-is_empty.ensures in
    let some = some_parts c.in-Choice.parts (λ none. true≢false (sym (c.is_empty.ensures.1 none) ∙ c.if-not-is_empty.true)) in
    ready_by c.args.self.now.g.now (IsFoundAt c.args.self.now.written.now) c.in-Choice.is (outs-Choice _) (λ is. (some, are.0 is), λ by. are.1 by.1)

pub is_ready-returns-in-Maybe : goal.is_ready-returns-in-Maybe
is_ready-returns-in-Maybe t c =
    ready_by c.args.self.now.g.now (IsFoundAt c.args.self.now.written.now) c.in-Maybe.is (outs-Maybe _)
    (subst (λ e. IsTrue c.is_ready.result ↔ ElementIsReady c.args.self.now.g.now (IsFoundAt c.args.self.now.written.now) e) c.get.ensures c.is_ready.ensures)

pub is_ready-returns-in-Many : goal.is_ready-returns-in-Many
is_ready-returns-in-Many t c =
    ready_by c.args.self.now.g.now (IsFoundAt c.args.self.now.written.now) c.in-Many.is (outs-Many _)
    (subst (λ e. IsTrue c.is_ready-in-Many.result ↔ ElementIsReady c.args.self.now.g.now (IsFoundAt c.args.self.now.written.now) e) c.get-in-Many.ensures c.is_ready-in-Many.ensures)

pub is_ready-returns-in-Some1 : goal.is_ready-returns-in-Some1
is_ready-returns-in-Some1 t c =
    ready_by c.args.self.now.g.now (IsFoundAt c.args.self.now.written.now) c.in-Some1.is (outs-Some1 _)
    (subst (λ e. IsTrue c.is_ready-in-Some1.result ↔ ElementIsReady c.args.self.now.g.now (IsFoundAt c.args.self.now.written.now) e) c.get-in-Some1.ensures c.is_ready-in-Some1.ensures)

pub are_ready-returns-then-not-is_ready : goal.are_ready-returns-then-not-is_ready
are_ready-returns-then-not-is_ready t c = (
  λ is. absurd (true≢false (sym is)),
  λ all. absurd (true≢false (sym (c.is_ready.ensures.1 (all_of c.args.self.now.g.now (IsFoundAt c.args.self.now.written.now) c.args.parts.now c.part-item.result all
      (read_there c.args.parts.now c.loop-part.part-index c.part-item.result c.loop-part-test.true c.part-item.is))) ∙ c.if-not-is_ready.true)),
)

pub are_ready-loop-part-preserved : goal.are_ready-loop-part-preserved
are_ready-loop-part-preserved t c = λ others.
    c.loop-part.invariant (next_ready c.args.self.now.g.now (IsFoundAt c.args.self.now.written.now) c.args.parts.now c.loop-part.part-index c.part-item.result
    c.loop-part-test.true c.part-item.is (c.is_ready.ensures.0 c.if-not-is_ready.false) others)

pub are_ready-returns : goal.are_ready-returns
are_ready-returns t c = (
  λ _. c.loop-part.invariant (over_ready c.args.self.now.g.now (IsFoundAt c.args.self.now.written.now) c.args.parts.now c.loop-part.part-index c.loop-part-test.false),
  λ _. refl,
)
