use Rattle.std.proofs.Common.{arith}
use Rattle.lw_faults.proofs.Joining.{Finds-more}
use Rattle.lw_gramcheck.specs.Parts.{MarkedAgain}
use Rattle.lw_gramcheck.proofs.parts.entries.find_marked.Goals as goal

pub loop-rule-preserved : goal.loop-rule-preserved
loop-rule-preserved c = Finds-more MarkedAgain c.args.rules.now c.loop-rule.rule-index c.rule-item.result (omega arith) c.rule-item.is c.loop-rule.invariant c.in_ok-find_mark.ensures
