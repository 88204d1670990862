use Rattle.std.proofs.Common.{take}
use Rattle.lw_faults.specs.Finding.{Finds, OfSome}
use Rattle.lw_check.specs.Sorting.{diagnostics_of}
use Rattle.lw_check.specs.Telling.{TellsValue}
use Rattle.lw_check.proofs.numbers.tell_numbers.Given as goal

abbrev pub invariant-loop-entry : goal.invariant-loop-entry
invariant-loop-entry l =
    Finds (OfSome (λ e. TellsValue e.2) (take l.entry-index l.entry-items)) (diagnostics_of l.fn.diagnostics.items) (diagnostics_of l.diagnostics.items)
