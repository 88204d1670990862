use Rattle.lw_faults.proofs.Joining.{Finds-more}
use Rattle.lw_gramcheck.specs.BadSites.{HasBadSite}
use Rattle.lw_gramcheck.proofs.parts.bad_calls.find_in_rules.Goals as goal

pub loop-rule-preserved : goal.loop-rule-preserved
loop-rule-preserved c =
    Finds-more (HasBadSite c.args.checker.now.g.now) c.as_slice-rule-items.result.now c.loop-rule.rule-index c.rule-item.result c.loop-rule-test.true c.rule-item.is
    c.loop-rule.invariant c.in_ok-find_bad_sites.ensures
