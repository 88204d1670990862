use Rattle.lw_builder.proofs.Claiming.{claimed_at}
use Rattle.lw_builder.proofs.finishing.claim.Goals as goal

pub returns : goal.returns
returns c = claimed_at c.args.own c.args.number.0 c.args.refs.now.items c.index_mut-reference.result.now c.index_mut-reference.ensures.value c.requires
