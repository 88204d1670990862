use Rattle.lw_faults.proofs.Joining.{Finds-more}
use Rattle.lw_properties.specs.Mixing.{RuleInfers}
use Rattle.lw_properties.proofs.inferred.put_results.Goals as goal

pub loop-rule-preserved : goal.loop-rule-preserved
loop-rule-preserved c =
    Finds-more RuleInfers c.args.rules.now c.loop-rule.rule-index c.rule-item.result c.loop-rule-test.true c.rule-item.is c.loop-rule.invariant c.in_ok-put_result.ensures
