use Rattle.std.proofs.Common.{[]}
use Rattle.lw_faults.specs.Finding.{Finds, AtSomeBelow}
use Rattle.lw_gramcheck.specs.Edges.{CallsTerminals}
use Rattle.lw_gramcheck.proofs.parts.call_graphs.terminal_edges.Given as goal

abbrev pub invariant-loop-t : goal.invariant-loop-t
invariant-loop-t l = Finds (AtSomeBelow (CallsTerminals l.fn.checker.g.now) l.t l.fn.checker.g.now.terminals) [] l.edges.items
