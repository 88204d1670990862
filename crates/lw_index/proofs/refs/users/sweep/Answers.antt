use Rattle.lw_index.proofs.Pairing.{swept}
use Rattle.lw_index.proofs.refs.users.sweep.Goals as goal

pub returns : goal.returns
returns c = swept c.args.documents.now c.args.pairs.now c.leave.new.pairs c.args.user.0 c.get.result c.get.ensures.value c.leave.ensures c.requires
