use Rattle.std.proofs.Common.{take}
use Rattle.lw_numbers.specs.Parts.{term_call_of}
use Rattle.lw_faults.specs.Finding.{Finds, OfSome}
use Rattle.lw_gramcheck.specs.Edges.{CallsTerminal}
use Rattle.lw_gramcheck.proofs.parts.call_graphs.put_terminal.Given as goal

abbrev pub invariant-loop-call : goal.invariant-loop-call
invariant-loop-call l = Finds (OfSome (λ call. CallsTerminal l.fn.checker.g.now l.fn.t (term_call_of call)) (take l.call-index l.call-items)) l.fn.edges.items l.edges.items
