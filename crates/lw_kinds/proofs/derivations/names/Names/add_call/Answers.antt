use Rattle.std.proofs.Common.{◌≡◌}
use Rattle.std.proofs.lemmas.Result.{on_ok_weaker}
use Rattle.lw_kinds.specs.Edges.{IsNamedSo}
use Rattle.lw_kinds.proofs.EdgeLemmas.{AddsEdges-same}
use Rattle.lw_kinds.proofs.NamedRules.{IsThisName, named_one}
use Rattle.lw_kinds.proofs.derivations.names.Names.add_call.Goals as goal

pub returns-in-Some : goal.returns-in-Some
returns-in-Some c =
    let g = c.args.self.now.g.now in
    on_ok_weaker c.add.result
    (λ edges. AddsEdges-same c.args.from (λ b. b ≡ c.in-Some.rule) (IsNamedSo g (IsThisName g c.args.name.now)) (named_one g c.args.name.now c.in-Some.rule c.in-Some.ensures)
    c.args.graph.now c.add.new.self (record { nodes = c.add.ensures.nodes; edges = edges }))
    c.add.ensures.edges
