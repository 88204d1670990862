use Rattle.lw_faults.specs.Reads.{Leads}
use Rattle.lw_kinds.specs.Edges.{AreEdgesBelow}
use Rattle.lw_kinds.proofs.derivations.names.Names.leads.Given as goal

abbrev pub invariant-loop-from : goal.invariant-loop-from
invariant-loop-from l = AreEdgesBelow l.self.g.now (λ caller. Leads l.self.g.now caller.body) l.from l.graph
