-- The named nodes in each node of a tree, by node.
-- Held against the definition of the symbols of a node.
use Rattle.std.specs.Prelude.{ℕ, List, length, map, filter}
use Rattle.std.specs.List.{flat_map, range_with_len}
use Rattle.lw_base.specs.declared.numbers.NodeId.{NodeId}
use Rattle.lw_tree.specs.Children.{Families}
use Rattle.lw_tree.specs.Parts.{Parts, children_of}
use Rattle.lw_scoping.specs.Symbols.{is_named_node}

-- the named nodes directly in a node
abbrev pub named_children : Parts → ℕ → List NodeId
named_children tree n = filter (λ (c : NodeId). is_named_node tree c.0) (children_of n tree.nodes)

-- those of the first so many nodes, one behind the other
abbrev pub named_before : Parts → ℕ → List NodeId
named_before tree n = flat_map (named_children tree) (range_with_len 0 n)

abbrev pub named_families : Parts → Families
named_families tree = map (named_children tree) (range_with_len 0 (length tree.nodes))
