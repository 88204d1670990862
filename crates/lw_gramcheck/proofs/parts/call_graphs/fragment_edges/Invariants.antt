use Rattle.std.proofs.Common.{[]}
use Rattle.lw_faults.specs.Finding.{Finds, AtSomeBelow}
use Rattle.lw_gramcheck.specs.Edges.{CallsFragments}
use Rattle.lw_gramcheck.proofs.parts.call_graphs.fragment_edges.Given as goal

abbrev pub invariant-loop-q : goal.invariant-loop-q
invariant-loop-q l = Finds (AtSomeBelow (CallsFragments l.fn.checker.g.now) l.q l.fn.checker.g.now.rules) [] l.edges.items
