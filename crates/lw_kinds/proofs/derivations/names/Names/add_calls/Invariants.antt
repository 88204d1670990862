use Rattle.lw_numbers.specs.Parts.{leaf_of}
use Rattle.lw_kinds.specs.Edges.{IsNamedSo, CallsAtLeaf}
use Rattle.lw_kinds.proofs.EdgeLemmas.{AddsEdgesBelow}
use Rattle.lw_kinds.proofs.derivations.names.Names.add_calls.Given as goal

abbrev pub invariant-loop-leaf : goal.invariant-loop-leaf
invariant-loop-leaf l =
    AddsEdgesBelow l.from (λ x. IsNamedSo l.self.g.now (CallsAtLeaf l.self.g.now (leaf_of x))) l.leaf-items l.leaf-index l.fn.graph l.graph
