use Rattle.std.proofs.Common.{◌∙◌, sym}
use Rattle.lw_index.proofs.Pairing.{left_by_some, left_by_none}
use Rattle.lw_index.proofs.refs.leads.leave_one.Goals as goal
use Rattle.lw_index.proofs.refs.leads.leave_one.Goals.{in-Some, in-None}

pub returns : goal.returns
returns c = elim c.match-kept.branch [
  | in-Some w ↦ left_by_some c.args.pairs.now c.remove.new.self c.args.pair.0 c.args.pair.1 c.args.kept w.in-Some.leads w.in-Some.is c.remove.ensures.updates w.leads_into-stays.result w.leads_into-stays.ensures
      (sym w.stays-is ∙ c.if-stays.false)
  | in-None w ↦ left_by_none c.args.pairs.now c.remove.new.self c.args.pair.0 c.args.pair.1 c.args.kept w.in-None.is c.remove.ensures.updates
]
