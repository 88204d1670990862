use Rattle.std.proofs.Common.{◌∙◌}
use Rattle.lw_complete.proofs.FrontNamed.{asks_before, asks_behind, both_made}
use Rattle.lw_complete.proofs.starting.front_trees.Goals as goal

pub opened_tree-requires-clause-known : goal.opened_tree-requires-clause-known
opened_tree-requires-clause-known c =
    let (of, lexicon, next, typed, at) = c.requires in
    asks_before c.args.typing.now c.args.start.now of next at c.parser.result.now c.parser.ensures.parses c.recipes-recipes.result.now c.recipes-recipes.ensures
    c.as_slice-before.result.now c.as_slice-before.ensures

pub opened_tree-requires-2-clause-known : goal.opened_tree-requires-2-clause-known
opened_tree-requires-2-clause-known c =
    let (of, lexicon, next, typed, at) = c.requires in
    asks_behind c.args.typing.now c.args.start.now of next at c.parser.result.now c.parser.ensures.parses c.recipes-recipes.result.now c.recipes-recipes.ensures
    c.as_slice.result.now (c.as_slice.ensures.value ∙ c.in_ok-marks.ensures)

pub returns : goal.returns
returns c of next at =
    both_made c.args.typing.now c.args.start.now of next at c.parser.result.now c.parser.ensures.parses c.recipes-recipes.result.now c.recipes-recipes.ensures
    c.as_slice-before.result.now c.as_slice.result.now c.as_slice-before.ensures (c.as_slice.ensures.value ∙ c.in_ok-marks.ensures) c.in_ok-tree.tree
    c.in_ok-behind.behind c.in_ok-tree.ensures c.in_ok-behind.ensures
