use Rattle.std.proofs.Common.{refl, arith}
use Rattle.lw_graph.specs.declared.front.Front.{Front}
use Rattle.lw_graph.proofs.EndLemmas.{knows_fewer, not_round}
use Rattle.lw_graph.proofs.Flags.{node_within}
use Rattle.lw_graph.proofs.Growing.{Pops, popped_met}
use Rattle.lw_graph.proofs.graph.Graph.ended.Goals as goal

pub successors-before-requires : goal.successors-before-requires
successors-before-requires c =
    let old = c.ending.front in
    let mid : Front = record old { waiting = c.pop.new.self } in
    let pops : Pops c.in-Some.node old mid = record { met = refl; waiting = c.in-Some.ensures.items } in
    let met = node_within old.met.items c.in-Some.node (popped_met c.in-Some.node old mid pops c.ending.invariant.knows.waiting) in
    omega (arith, met, c.ending.invariant.knows.size, c.in_ok-turned.ensures)

pub end_before-requires-clause-front : goal.end_before-requires-clause-front
end_before-requires-clause-front c =
    let old = c.ending.front in
    let mid : Front = record old { waiting = c.pop.new.self } in
    let pops : Pops c.in-Some.node old mid = record { met = refl; waiting = c.in-Some.ensures.items } in
    knows_fewer c.args.self.now c.in-Some.node old mid c.ending.invariant.knows pops

pub returns : goal.returns
returns c = λ n has. not_round c.args.self.now (c.ending.invariant.knows.ended n has)
