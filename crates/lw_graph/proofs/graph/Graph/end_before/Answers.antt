use Rattle.std.proofs.Common.{get_or, sym, ap, ◌∙◌, subst}
use Rattle.lw_graph.specs.Ending.{KnowsEnded}
use Rattle.lw_graph.specs.Growth.{nodes_left}
use Rattle.lw_graph.proofs.EndLemmas.{knows_more}
use Rattle.lw_graph.proofs.graph.Graph.end_before.Goals as goal
use Rattle.lw_graph.proofs.graph.Graph.end_before.Goals.{then-counts-node+then-is_ended+in_ok-meet, else-counts-node}

pub loop-node-preserved : goal.loop-node-preserved
loop-node-preserved c =
    let graph = c.args.self.now in
    let node = get_or c.args.nodes.now c.loop-node.node-index 0 in
    let was = c.loop-node.invariant in
    record {
      knows = elim c.if-counts-node.branch [
        | then-counts-node+then-is_ended+in_ok-meet w ↦
            subst (KnowsEnded graph) (sym w.front-is) (knows_more graph node c.loop-node.front w.meet.new.self was.knows (w.is_ended.ensures.0 w.if-is_ended.true) w.in_ok-meet.ensures)
        | else-counts-node w ↦ subst (KnowsEnded graph) (sym w.front-is) was.knows
      ];
      left = elim c.if-counts-node.branch [
        | then-counts-node+then-is_ended+in_ok-meet w ↦ ap nodes_left w.front-is ∙ w.in_ok-meet.ensures.left ∙ was.left
        | else-counts-node w ↦ ap nodes_left w.front-is ∙ was.left
      ];
    }
