use Rattle.lw_symbols.proofs.Table.{table}
use Rattle.lw_symbols.proofs.named.NamedChildren.of_tree.Goals as goal

pub invariant_of-result : goal.invariant_of-result
invariant_of-result c =
    (table c.args.tree.now c.in_ok-starts.starts.items c.in_ok-starts.ids.items c.in_ok-starts.ensures.one_more c.in_ok-starts.ensures.starts
    c.in_ok-starts.ensures.ids).cut

pub returns : goal.returns
returns c =
    (table c.args.tree.now c.in_ok-starts.starts.items c.in_ok-starts.ids.items c.in_ok-starts.ensures.one_more c.in_ok-starts.ensures.starts
    c.in_ok-starts.ensures.ids).same
