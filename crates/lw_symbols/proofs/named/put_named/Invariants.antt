use Rattle.std.proofs.Common.{◌≡◌, ◌++◌, take, filter}
use Rattle.lw_base.specs.declared.numbers.NodeId.{NodeId}
use Rattle.lw_scoping.specs.Symbols.{is_named_node}
use Rattle.lw_symbols.proofs.named.put_named.Given as goal

abbrev pub invariant-loop-child : goal.invariant-loop-child
invariant-loop-child l = l.ids.items ≡ l.initial.ids.items ++ filter (λ (c : NodeId). is_named_node l.tree c.0) (take l.child-index l.child-items)
