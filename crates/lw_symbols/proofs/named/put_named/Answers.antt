use Rattle.std.proofs.Common.{◌<◌, List, Contains, length, get_or, subst, arith}
use Rattle.std.proofs.lemmas.List.Elements.{Contains-get_or}
use Rattle.lw_base.specs.declared.numbers.NodeId.{NodeId}
use Rattle.lw_symbols.proofs.Children.{child_inside}
use Rattle.lw_symbols.proofs.named.put_named.Goals as goal

pub name-requires : goal.name-requires
name-requires c =
    let inside : c.loop-child.child-index < length c.children-child-items.result.now = omega arith in
    child_inside c.args.n.0 c.args.tree.now.nodes _
    (subst (λ (cs : List NodeId). Contains cs (get_or c.children-child-items.result.now c.loop-child.child-index (record { 0 = 0 }))) c.children-child-items.ensures
    (Contains-get_or c.children-child-items.result.now c.loop-child.child-index (record { 0 = 0 }) inside))
