use Rattle.std.proofs.Common.{◌≡◌, ◌+◌, ◌<◌, ◌↔◌, length, sym, ap, ◌∙◌, subst, arith}
use Rattle.std.proofs.lemmas.List.{length_push}
use Rattle.lw_graph.specs.Walks.{HasNode, GoesRound}
use Rattle.lw_graph.proofs.Flags.{told_more, told_all}
use Rattle.lw_graph.proofs.graph.Graph.circles.Goals as goal

pub loop-node-preserved : goal.loop-node-preserved
loop-node-preserved c =
    let flags = c.loop-node.flags.items in
    let flag = c.in_ok-goes_round.field-0 in
    let was = c.loop-node.invariant in
    record {
      size = ap length c.in_ok-push.ensures.items ∙ length_push flags flag ∙ ap (λ n. n + 1) was.size;
      told = λ n lt. subst (λ fs. HasNode fs n ↔ GoesRound c.args.self.now n) (sym c.in_ok-push.ensures.items)
          (told_more (GoesRound c.args.self.now) flags flag c.loop-node.node was.size was.told c.in_ok-goes_round.ensures n lt);
    }

pub returns : goal.returns
returns c =
    let flags = c.loop-node.flags.items in
    let was = c.loop-node.invariant in
    let whole : length flags ≡ c.nodes.result = omega (arith, was.size, c.loop-node.auto.node-end, c.loop-node-test.false) in
    told_all (GoesRound c.args.self.now) flags (λ n lt. was.told n (omega (arith, lt, was.size)))
    (λ n (next, edge, walk). subst (λ k. n < k) (sym whole) (c.nodes.ensures.within n next edge).0)
