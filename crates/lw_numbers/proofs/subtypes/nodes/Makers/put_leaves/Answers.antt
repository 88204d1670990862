use Rattle.std.proofs.Common.{◌≡◌, map, arith, ◌∙◌}
use Rattle.std.proofs.lemmas.List.{length-map}
use Rattle.lw_numbers.specs.Parts.{leaf_of}
use Rattle.lw_numbers.specs.Makers.{LeafCalls, MakesOne}
use Rattle.lw_numbers.proofs.Making.{puts_more, puts_all}
use Rattle.lw_numbers.proofs.subtypes.nodes.Makers.put_leaves.Goals as goal
use Rattle.lw_base.proofs.Lists.{map_at}

pub loop-leaf-preserved : goal.loop-leaf-preserved
loop-leaf-preserved c =
    let found = c.args.found.now in
    let i = c.loop-leaf.leaf-index in
    let g = c.args.g.now in
    let put = c.in_ok-put_leaf.ensures in
    record {
      nodes = put.edges_put.nodes ∙ c.loop-leaf.invariant.nodes;
      puts =
          puts_more (map leaf_of found) (λ k leaf from to. LeafCalls g leaf from × (to ≡ c.args.rule)) (λ k leaf r. MakesOne leaf × (r ≡ c.args.rule)) i
          (leaf_of c.leaf-item.result) (map_at leaf_of found i c.leaf-item.result c.loop-leaf-test.true c.leaf-item.is) c.loop-leaf.invariant.puts put;
    }

pub returns : goal.returns
returns c =
    let found = c.args.found.now in
    let g = c.args.g.now in
    puts_all (map leaf_of found) (λ k leaf from to. LeafCalls g leaf from × (to ≡ c.args.rule)) (λ k leaf r. MakesOne leaf × (r ≡ c.args.rule))
    c.loop-leaf.leaf-index (omega (arith, length-map found leaf_of, c.loop-leaf-test.false)) c.loop-leaf.invariant.puts
