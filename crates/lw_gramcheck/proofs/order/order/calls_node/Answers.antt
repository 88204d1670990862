use Rattle.std.proofs.Common.{inl, inr, subst}
use Rattle.std.proofs.lemmas.Bool.{false≢true}
use Rattle.lw_base.specs.declared.token.Span.{Span}
use Rattle.lw_grammar.specs.Leaves as leaf
use Rattle.lw_faults.specs.Steps.{IsNodeCall}
use Rattle.lw_numbers.specs.Numbering.{Means}
use Rattle.lw_gramcheck.proofs.CallLemmas.{by_flag, has_flag, not_of_terminal, not_of_nothing}
use Rattle.lw_gramcheck.proofs.order.order.calls_node.Goals as goal

pub returns-then-not-rule : goal.returns-then-not-rule
returns-then-not-rule c =
    let g = c.args.names.g.now in
    let name = c.args.name.now in
    let flags = c.args.names.nodes.now in
    let r = c.in-Rule.r in
    let rule = c.in-Rule.rule.now in
    let is = c.in-Rule.ensures in
    λ s. (λ flagged. by_flag g name s r rule is flags c.requires.nodes c.if-not-rule.true flagged, λ called. has_flag g name s r rule is flags c.requires.nodes called)

pub returns-in-Terminal : goal.returns-in-Terminal
returns-in-Terminal c =
    let g = c.args.names.g.now in
    let name = c.args.name.now in
    let none : (s : Span) → ¬ IsNodeCall g (leaf.Call name s) = λ s. elim c.in-Terminal.is [
      | inl (t, x, is) ↦ not_of_terminal g name s t x.now (subst (Means g name) is c.called.ensures)
      | inr is ↦ not_of_nothing g name s (subst (Means g name) is c.called.ensures)
    ] in
    λ s. (λ is. absurd (false≢true is), λ called. absurd (none s called))
