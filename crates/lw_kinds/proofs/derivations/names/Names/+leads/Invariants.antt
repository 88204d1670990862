use Rattle.lw_faults.specs.Reads.{MayRead, Leads}
use Rattle.lw_kinds.specs.Edges.{EachBelow, IsNamedSo}
use Rattle.lw_kinds.proofs.EdgeLemmas.{AddsEdgesBelow}
use Rattle.lw_kinds.proofs.derivations.names.Names.+leads.Given as goal

abbrev pub invariant-add_row-loop-element : goal.invariant-add_row-loop-element
invariant-add_row-loop-element l = record {
  adds : AddsEdgesBelow l.from (λ e. IsNamedSo l.self.g.now (Leads l.self.g.now e)) l.elements l.element-index l.fn.graph l.graph;
  nothing : EachBelow (λ e. MayRead l.self.g.now e 0) l.elements l.element-index;
}

abbrev pub invariant-add_choice-loop-element : goal.invariant-add_choice-loop-element
invariant-add_choice-loop-element l =
    AddsEdgesBelow l.from (λ e. IsNamedSo l.self.g.now (Leads l.self.g.now e)) l.elements l.element-index l.fn.graph l.graph
