use Rattle.std.proofs.Common.{◌≡◌}
use Rattle.std.specs.Vec.Iter.{into_iter_items}
use Rattle.serde_json.specs.View.{items_view}
use Rattle.lw_rpc.specs.Listed.{items_by}
use Rattle.lw_rpc.proofs.ListedLemmas.{behind}
use Rattle.lw_rpc.proofs.listed.items.Given as goal

-- what the values so far say, and what those that are left say, is what all of them say
abbrev pub invariant-values : goal.invariant-values
invariant-values g l =
    let shape = g.T.Listed.shape in
    behind l.items (items_by shape (items_view (into_iter_items l.value-iterator))) ≡ items_by shape (items_view (into_iter_items l.initial.value-iterator))
