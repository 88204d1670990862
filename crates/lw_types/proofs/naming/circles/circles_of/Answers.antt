use Rattle.std.proofs.Common.{◌↔◌, ℕ, get_or, ◌∙◌, arith}
use Rattle.std.proofs.lemmas.List.Elements.{Contains-get_or}
use Rattle.std.proofs.lemmas.Result.{IfOk-weaker}
use Rattle.lw_graph.specs.Walks.{HasNode, GoesRound}
use Rattle.lw_types.specs.Rounds.{AreRound}
use Rattle.lw_types.proofs.Edges.{edge_more, edge_all}
use Rattle.lw_types.proofs.Membership.{in_nothing}
use Rattle.lw_types.proofs.naming.circles.circles_of.Goals as goal

pub loop-from-init : goal.loop-from-init
loop-from-init c = record {
  places = c.in_ok-graph.ensures.nodes;
  edge = λ a b. (λ has. absurd (c.in_ok-graph.ensures.empty a b has), λ has. absurd (in_nothing {X = ℕ × ℕ} {x = (a, b)} has));
}

pub add-requires-clause-from_in : goal.add-requires-clause-from_in
add-requires-clause-from_in c =
    let edges = c.args.edges.now in
    let i = c.loop-from.from-index in
    let next = get_or edges i (0, 0) in
    let within = c.requires next.0 next.1 (Contains-get_or edges i (0, 0) (omega arith)) in
    omega (arith, within.0, c.loop-from.invariant.places)

pub add-requires-clause-to_in : goal.add-requires-clause-to_in
add-requires-clause-to_in c =
    let edges = c.args.edges.now in
    let i = c.loop-from.from-index in
    let next = get_or edges i (0, 0) in
    let within = c.requires next.0 next.1 (Contains-get_or edges i (0, 0) (omega arith)) in
    omega (arith, within.1, c.loop-from.invariant.places)

pub loop-from-preserved : goal.loop-from-preserved
loop-from-preserved c = record {
  places = c.add.ensures.nodes ∙ c.loop-from.invariant.places;
  edge =
      edge_more c.args.edges.now c.loop-from.from-index (0, 0) (omega arith) c.loop-from.graph c.add.new.self c.loop-from.invariant.edge
      c.in_ok-add.ensures.edges;
}

pub returns : goal.returns
returns c =
    let edge = edge_all c.args.edges.now c.loop-from.from-index c.loop-from.graph (omega arith) c.loop-from.invariant.edge in
    IfOk-weaker c.circles.result (λ round. (n : ℕ) → HasNode round n ↔ GoesRound c.loop-from.graph n) (AreRound c.args.edges.now)
    (λ round node. record { graph = c.loop-from.graph; edge = edge; node = node }) c.circles.ensures
