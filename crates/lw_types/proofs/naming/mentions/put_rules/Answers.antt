use Rattle.std.proofs.Common.{arith}
use Rattle.lw_types.specs.NameUses.{rule_uses}
use Rattle.lw_types.proofs.Reading.{put_more}
use Rattle.lw_types.proofs.naming.mentions.put_rules.Goals as goal

pub loop-rule-preserved : goal.loop-rule-preserved
loop-rule-preserved c =
    put_more _ _ rule_uses _ c.args.rules.now c.loop-rule.rule-index c.rule-item.result (omega arith) c.rule-item.is c.loop-rule.invariant
    c.in_ok-put_rule.ensures
