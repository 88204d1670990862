use Rattle.std.proofs.Common.{arith, ◌∙◌}
use Rattle.std.proofs.Math.ListN.{length-set}
use Rattle.lw_builder.proofs.Placing.{container_within, number_within, renewed, place_more, all_put}
use Rattle.lw_builder.proofs.preorder.nodes.nodes_by_number.Goals as goal

pub renumbered-container-requires : goal.renumbered-container-requires
renumbered-container-requires c = container_within c.args.finished.now c.loop-place.place _ _ c.requires.finished c.requires.numbered.as_many (omega arith)

pub index_mut-requires : goal.index_mut-requires
index_mut-requires c = omega (arith, number_within c.args.finished.now c.args.numbers.now c.loop-place.place c.requires.finished c.requires.numbered (omega arith))

pub loop-place-preserved : goal.loop-place-preserved
loop-place-preserved c =
    let room = number_within c.args.finished.now c.args.numbers.now c.loop-place.place c.requires.finished c.requires.numbered (omega arith) in
    record {
      as_many = length-set _ _ _ ∙ c.loop-place.invariant.as_many;
      so_far = place_more c.args.finished.now c.args.numbers.now c.loop-place.nodes.items c.loop-place.place _ _ (omega arith)
          (omega (arith, room)) (renewed _ _ _ c.renumbered-container.ensures) c.loop-place.invariant.so_far;
    }

pub returns : goal.returns
returns c = all_put c.args.finished.now c.args.numbers.now c.loop-place.nodes.items c.loop-place.place (omega arith) c.loop-place.invariant.as_many c.requires.numbered c.loop-place.invariant.so_far
