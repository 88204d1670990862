use Rattle.lw_symbols.proofs.ShelfLemmas.{greater_behind, lesser_before, start_first}
use Rattle.lw_symbols.proofs.shelves.places_of.Goals as goal

pub returns-clause-order : goal.returns-clause-order
returns-clause-order c =
    start_first c.args.symbols.now c.args.starts.now c.requires c.args.hash c.shelf_of-own.result c.shelf_count.result c.shelf_of-own.ensures c.shelf_count.ensures
    c.start_at-start.result c.start_at-end.result c.start_at-start.ensures c.start_at-end.ensures

pub returns-clause-before : goal.returns-clause-before
returns-clause-before c =
    lesser_before c.args.symbols.now c.args.starts.now c.requires c.args.hash c.shelf_of-own.result c.shelf_count.result c.shelf_of-own.ensures c.shelf_count.ensures
    c.start_at-start.result c.start_at-start.ensures

pub returns-clause-behind : goal.returns-clause-behind
returns-clause-behind c =
    greater_behind c.args.symbols.now c.args.starts.now c.requires c.args.hash c.shelf_of-own.result c.shelf_count.result c.shelf_of-own.ensures c.shelf_count.ensures
    c.start_at-end.result c.start_at-end.ensures
