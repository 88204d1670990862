use Rattle.lw_faults.specs.Reads.{ValueLeads}
use Rattle.lw_kinds.specs.Edges.{IsNamedSo}
use Rattle.lw_kinds.proofs.EdgeLemmas.{AddsEdgesBelow}
use Rattle.lw_kinds.proofs.derivations.names.Names.+values_called.Given as goal

abbrev pub invariant-add_values-loop-value : goal.invariant-add_values-loop-value
invariant-add_values-loop-value l =
    AddsEdgesBelow l.from (λ v. IsNamedSo l.self.g.now (ValueLeads l.self.g.now v)) l.values l.value-index l.fn.graph l.graph
