use Rattle.std.proofs.Common.{arith}
use Rattle.lw_tree.proofs.Stretches.{bounds, next_in, part_is}
use Rattle.lw_symbols.proofs.named.NamedChildren.at.Goals as goal

pub index-start-requires : goal.index-start-requires
index-start-requires c =
    let room = next_in c.self.inside.starts.items c.self.inside.ids.items c.args.self.now c.args.node.0 c.self.view_is c.requires in
    omega (arith, room, c.self.inside.starts.ok.0)

pub index-end-requires : goal.index-end-requires
index-end-requires c =
    let room = next_in c.self.inside.starts.items c.self.inside.ids.items c.args.self.now c.args.node.0 c.self.view_is c.requires in
    omega (arith, room, c.self.inside.starts.ok.0)

pub part-requires-clause-order : goal.part-requires-clause-order
part-requires-clause-order c =
    let room = next_in c.self.inside.starts.items c.self.inside.ids.items c.args.self.now c.args.node.0 c.self.view_is c.requires in
    (bounds c.self.inside.starts.items c.self.inside.ids.items c.as_slice.result.now c.args.node.0 _ _ c.self.invariant c.as_slice.ensures.value room
    c.index-start.ensures c.index-end.ensures).0

pub part-requires-clause-room : goal.part-requires-clause-room
part-requires-clause-room c =
    let room = next_in c.self.inside.starts.items c.self.inside.ids.items c.args.self.now c.args.node.0 c.self.view_is c.requires in
    (bounds c.self.inside.starts.items c.self.inside.ids.items c.as_slice.result.now c.args.node.0 _ _ c.self.invariant c.as_slice.ensures.value room
    c.index-start.ensures c.index-end.ensures).1

pub returns : goal.returns
returns c =
    part_is c.self.inside.starts.items c.self.inside.ids.items c.as_slice.result.now _ c.args.self.now c.args.node.0 _ _ c.self.view_is c.requires
    c.as_slice.ensures.value c.index-start.ensures c.index-end.ensures c.part.ensures
