use Rattle.std.proofs.Common.{◌≡◌, [], Contains, length, sym, ◌∙◌, subst}
use Rattle.std.proofs.lemmas.Bool.{eqb-true}
use Rattle.std.proofs.lemmas.List.{nil_from_length}
use Rattle.lw_graph.specs.Ending.{KnowsEnded}
use Rattle.lw_graph.proofs.EndLemmas.{knows_more}
use Rattle.lw_graph.proofs.Growing.{not_in_none}
use Rattle.lw_graph.proofs.graph.Graph.leaves.Goals as goal
use Rattle.lw_graph.proofs.graph.Graph.leaves.Goals.{then-is_empty+in_ok-meet, else-is_empty}

pub loop-node-preserved : goal.loop-node-preserved
loop-node-preserved c =
    let graph = c.args.self.now in
    elim c.if-is_empty.branch [
      | then-is_empty+in_ok-meet w ↦
          let none : c.successors.result.now ≡ [] = nil_from_length c.successors.result.now (eqb-true (length c.successors.result.now) 0 (sym c.is_empty.ensures ∙ w.if-is_empty.true)) in
          subst (KnowsEnded graph) (sym w.front-is)
          (knows_more graph c.loop-node.node c.loop-node.front w.meet.new.self c.loop-node.invariant
          (λ next edge. absurd (not_in_none (subst (λ ns. Contains ns next) (sym c.successors.ensures.edges ∙ none) edge))) w.in_ok-meet.ensures)
      | else-is_empty w ↦ subst (KnowsEnded graph) (sym w.front-is) c.loop-node.invariant
    ]
