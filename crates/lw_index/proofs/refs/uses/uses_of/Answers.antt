use Rattle.lw_index.proofs.Order.{sorted_uses}
use Rattle.lw_index.proofs.refs.uses.uses_of.Goals as goal

pub returns : goal.returns
returns c = sorted_uses c.args.answers.now c.in_ok-uses.uses.items c.sort_unstable.new.self.items c.in_ok-uses.ensures
    c.sort_unstable.ensures.permutation c.sort_unstable.ensures.sorted
