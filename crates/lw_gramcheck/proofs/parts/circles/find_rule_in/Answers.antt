use Rattle.lw_graph.specs.Walks.{HasNode}
use Rattle.lw_faults.proofs.Joining.{Finds-where}
use Rattle.lw_gramcheck.specs.Parts.{at_rule}
use Rattle.lw_gramcheck.proofs.parts.circles.find_rule_in.Goals as goal

pub returns : goal.returns
returns c = Finds-where (HasNode c.args.round.now c.args.r) (at_rule 20 c.args.rule.now) (c.holds.ensures.0 c.if-not-holds.false) c.in_ok-add.ensures
