use Rattle.std.proofs.Common.{List, subst}
use Rattle.lw_grammar.specs.declared.rule.Rule.{Rule}
use Rattle.lw_faults.specs.Finding.{Finds, OfSome}
use Rattle.lw_faults.proofs.Joining.{Finds-more, Finds-all}
use Rattle.lw_gramcheck.specs.BadSites.{HasBadPut}
use Rattle.lw_gramcheck.proofs.AssignmentLemmas.{found_bad_puts}
use Rattle.lw_gramcheck.proofs.parts.assignments.find_bad_assignments.Goals as goal

pub loop-rule-preserved : goal.loop-rule-preserved
loop-rule-preserved c =
    Finds-more (HasBadPut c.args.checker.now.g.now) c.as_slice-rule-items.result.now c.loop-rule.rule-index c.rule-item.result c.loop-rule-test.true c.rule-item.is
    c.loop-rule.invariant c.in_ok-find_bad_puts.ensures

pub returns : goal.returns
returns c =
    let g = c.args.checker.now.g.now in
    let P : List Rule → Type 0 = λ rules. Finds (OfSome (HasBadPut g) rules) c.args.found.now c.loop-rule.found in
    found_bad_puts g (subst P c.as_slice-rule-items.ensures
    (Finds-all (HasBadPut g) c.as_slice-rule-items.result.now c.loop-rule.rule-index c.loop-rule-test.false c.loop-rule.invariant))
