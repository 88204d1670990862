use Rattle.lw_grammar.specs.Reached.{RuleCalls}
use Rattle.lw_kinds.specs.Edges.{AreEdgesBelow}
use Rattle.lw_kinds.proofs.derivations.names.Names.calls.Given as goal

abbrev pub invariant-loop-from : goal.invariant-loop-from
invariant-loop-from l = AreEdgesBelow l.self.g.now (RuleCalls l.self.g.now) l.from l.graph
