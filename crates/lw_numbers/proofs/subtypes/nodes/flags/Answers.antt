use Rattle.std.proofs.Common.{◌+◌, sym, subst}
use Rattle.lw_numbers.specs.Makers.{Shows}
use Rattle.lw_numbers.proofs.Rows.{shows_more}
use Rattle.lw_numbers.proofs.subtypes.nodes.flags.Goals as goal

pub loop-node-preserved : goal.loop-node-preserved
loop-node-preserved c =
    let met = c.args.met.now in
    let n = c.loop-node.node in
    subst (Shows met (n + 1)) (sym c.in_ok-push.ensures.items) (shows_more met n c.loop-node.flags.items c.holds.result c.loop-node.invariant c.holds.ensures)
