use Rattle.lw_symbols.proofs.Table.{own_locals}
use Rattle.lw_symbols.proofs.locals.Locals.of.Goals as goal

pub returns : goal.returns
returns c = λ tree are. own_locals tree c.args.self.now.named c.args.n.0 c.at.result.now are.named c.at.ensures
