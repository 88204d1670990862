use Rattle.lw_builder.proofs.Adopting.{adopted_at}
use Rattle.lw_builder.proofs.finishing.adopt.Goals as goal

pub returns : goal.returns
returns c = adopted_at c.args.own c.args.prop c.args.place.0 c.args.finished.now.items c.index_mut-child.result.now c.index_mut-child.ensures.value c.requires
