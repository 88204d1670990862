use Rattle.std.proofs.Common.{take}
use Rattle.lw_numbers.specs.Parts.{term_call_of}
use Rattle.lw_faults.specs.Finding.{Finds, OfSome}
use Rattle.lw_gramcheck.specs.BadSites.{CallsRule}
use Rattle.lw_gramcheck.proofs.parts.bad_calls.find_called_rules.Given as goal

abbrev pub invariant-loop-call : goal.invariant-loop-call
invariant-loop-call l = Finds (OfSome (λ call. CallsRule l.fn.checker.g.now l.fn.terminal (term_call_of call)) (take l.call-index l.call-items)) l.fn.found l.found
