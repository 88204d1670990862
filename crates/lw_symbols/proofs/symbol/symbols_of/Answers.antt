use Rattle.lw_symbols.proofs.Listing.{all_listed}
use Rattle.lw_symbols.proofs.symbol.symbols_of.Goals as goal

pub returns : goal.returns
returns c =
    all_listed c.args.tree.now c.in_ok-list.list.items c.in_ok-symbols.symbols.items c.in_ok-list.ensures c.in_ok-symbols.ensures.ordered
    c.in_ok-symbols.ensures.same
