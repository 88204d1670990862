use Rattle.std.proofs.Common.{◌≡◌, ◌<◌, List, Some, Contains, length, slice_get, slice_index_or, sym, subst}
use Rattle.std.proofs.lemmas.Option.{get_or_from_slice_get, slice_get-get_or}
use Rattle.lw_base.specs.declared.numbers.NodeId.{NodeId}
use Rattle.lw_faults.proofs.Joining.{Finds-all, Finds-more}
use Rattle.lw_scoping.proofs.Places.{among}
use Rattle.lw_check.specs.Telling.{TellsDouble}
use Rattle.lw_check.proofs.Once.{all_doubles}
use Rattle.lw_check.proofs.duplicates.tell_duplicates.Goals as goal

pub tell_duplicate-requires-clause-there : goal.tell_duplicate-requires-clause-there
tell_duplicate-requires-clause-there c =
    let items = c.deref-node-items.result.now in
    let node = slice_index_or items c.loop-node.node-index (record { 0 = 0 }) in
    let at : slice_get items c.loop-node.node-index ≡ Some node = slice_get-get_or items c.loop-node.node-index (record { 0 = 0 }) c.loop-node-test.true in
    c.in_ok-nodes.ensures.inside c.args.tree.now c.requires.locals node
    (subst (λ (ns : List NodeId). Contains ns node) c.deref-node-items.ensures.value (among items c.loop-node.node-index node at))

pub loop-node-preserved : goal.loop-node-preserved
loop-node-preserved c g types =
    let items = c.deref-node-items.result.now in
    let node = slice_index_or items c.loop-node.node-index (record { 0 = 0 }) in
    let at : slice_get items c.loop-node.node-index ≡ Some node = slice_get-get_or items c.loop-node.node-index (record { 0 = 0 }) c.loop-node-test.true in
    Finds-more (λ (n : NodeId). TellsDouble g c.args.tree.now n.0) items c.loop-node.node-index node c.loop-node-test.true
    (sym (get_or_from_slice_get items c.loop-node.node-index node node at)) (c.loop-node.invariant g types) (c.in_ok-tell_duplicate.ensures g types)

pub returns : goal.returns
returns c g types =
    let items = c.deref-node-items.result.now in
    let same = c.deref-node-items.ensures.value in
    all_doubles g c.args.tree.now items
    (subst (λ (ns : List NodeId). (n : NodeId) → Contains ns n → n.0 < length c.args.tree.now.nodes) (sym same) (c.in_ok-nodes.ensures.inside c.args.tree.now c.requires.locals))
    (λ n name type named double. subst (λ (ns : List NodeId). Contains ns n) (sym same) (c.in_ok-nodes.ensures.doubles c.args.tree.now c.requires.locals n name type named double))
    (Finds-all (λ (n : NodeId). TellsDouble g c.args.tree.now n.0) items c.loop-node.node-index c.loop-node-test.false (c.loop-node.invariant g types))
