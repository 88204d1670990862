use Rattle.std.proofs.Common.{map, arith}
use Rattle.std.proofs.lemmas.List.{length-map}
use Rattle.lw_numbers.specs.Parts.{leaf_of}
use Rattle.lw_numbers.specs.Kin.{LeafLeads}
use Rattle.lw_numbers.proofs.Placing.{puts_kin_more, puts_kin_all, room_stays}
use Rattle.lw_numbers.proofs.subtypes.kinship.Kinship.put_leaves.Goals as goal
use Rattle.lw_base.proofs.Lists.{map_at}

pub loop-leaf-preserved : goal.loop-leaf-preserved
loop-leaf-preserved c =
    let found = c.args.found.now in
    let n = c.loop-leaf.leaf-index in
    let x = c.leaf-item.result in
    record {
      room = room_stays c.args.g.now c.loop-leaf.invariant.room c.in_ok-put_leaf.ensures;
      puts =
          puts_kin_more (map leaf_of found) (λ k leaf. LeafLeads c.args.g.now c.args.number leaf) n (leaf_of x)
          (map_at leaf_of found n x c.loop-leaf-test.true c.leaf-item.is) c.loop-leaf.invariant.puts c.in_ok-put_leaf.ensures;
    }

pub returns : goal.returns
returns c =
    puts_kin_all (map leaf_of c.args.found.now) (λ k leaf. LeafLeads c.args.g.now c.args.number leaf) c.loop-leaf.leaf-index
    (omega (arith, length-map c.args.found.now leaf_of, c.loop-leaf-test.false)) c.loop-leaf.invariant.puts
