use Rattle.std.proofs.Common.{refl}
use Rattle.lw_faults.proofs.Joining.{Finds-at-more, Finds-at-all}
use Rattle.lw_gramcheck.specs.Edges.{RuleIn}
use Rattle.lw_gramcheck.proofs.Places.{reads_at}
use Rattle.lw_gramcheck.proofs.parts.circles.find_rules_in.Goals as goal

pub loop-r-preserved : goal.loop-r-preserved
loop-r-preserved c =
    let rule = c.index-rules-r.result in
    let at = reads_at c.args.rules.now c.args.rules.now c.loop-r.r rule refl c.loop-r-test.true c.index-rules-r.is in
    Finds-at-more (RuleIn c.args.round.now) c.args.rules.now c.loop-r.r rule at c.loop-r.invariant c.in_ok-find_rule_in.ensures

pub returns : goal.returns
returns c = Finds-at-all (RuleIn c.args.round.now) c.args.rules.now c.loop-r.r c.loop-r-test.false c.loop-r.invariant
