use Rattle.std.proofs.Common.{◌≡◌, ℕ, ◌<◌, List, length, Some}
use Rattle.std.specs.Prelude.{slice_get, slice_index}
use Rattle.lw_tree.specs.declared.node.Node.{Node}
use Rattle.lw_builder.specs.declared.preorder.finished.Finished.{Finished}
use Rattle.lw_builder.specs.Finishing.{HasEach, with_number}
use Rattle.lw_builder.proofs.preorder.nodes.nodes_by_number.Given as goal

abbrev pub invariant-loop-place : goal.invariant-loop-place
invariant-loop-place l =
    record {
      as_many : length l.nodes.items ≡ length l.finished;
      so_far : (made : List Node) → HasEach l.finished l.numbers made → (i : ℕ) (x : Finished) → i < l.place → slice_get l.finished i ≡ Some x →
          slice_get l.nodes.items (slice_index l.numbers i) ≡ Some (with_number l.numbers x.node);
    }
