use Rattle.std.proofs.lemmas.Bool.{false≢true}
use Rattle.lw_gramcheck.proofs.AssignmentLemmas.{puts_by_rule, no_put_of_terminal, no_put_of_nothing}
use Rattle.lw_gramcheck.proofs.parts.assignments.puts_badly.Goals as goal

pub returns-in-Rule : goal.returns-in-Rule
returns-in-Rule c =
    let g = c.args.checker.now.g.now in
    let r = c.in-Rule.r in
    let rule = c.in-Rule.rule.now in (
      λ is. (r, rule, c.in-Rule.ensures, c.is_misused.ensures.0 is),
      λ bad. c.is_misused.ensures.1 (puts_by_rule g c.args.op c.args.name.now r rule c.in-Rule.ensures bad),
    )

pub returns-in-Terminal : goal.returns-in-Terminal
returns-in-Terminal c =
    let g = c.args.checker.now.g.now in (
      λ is. absurd (false≢true is),
      λ bad. absurd (no_put_of_terminal g c.args.op c.args.name.now c.in-Terminal.field-0 c.in-Terminal.field-1.now c.in-Terminal.ensures bad),
    )

pub returns-in-Nothing : goal.returns-in-Nothing
returns-in-Nothing c =
    (λ is. absurd (false≢true is), λ bad. absurd (no_put_of_nothing c.args.checker.now.g.now c.args.op c.args.name.now c.in-Nothing.ensures bad))
