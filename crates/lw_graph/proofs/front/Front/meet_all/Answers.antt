use Rattle.std.proofs.Common.{take, subst, sym}
use Rattle.lw_graph.specs.Growth.{Gains}
use Rattle.lw_graph.proofs.Growing.{Gains-append}
use Rattle.std.proofs.lemmas.List.{take_more}
use Rattle.lw_graph.proofs.front.Front.meet_all.Goals as goal

pub loop-node-preserved : goal.loop-node-preserved
loop-node-preserved c =
    let i = c.loop-node.node-index in
    let nodes = c.args.nodes.now in
    subst (λ ns. Gains ns c.args.self.now c.meet.new.self) (sym (take_more nodes i 0 c.loop-node-test.true))
    (Gains-append (take i nodes) _ c.loop-node.invariant c.in_ok-meet.ensures)
