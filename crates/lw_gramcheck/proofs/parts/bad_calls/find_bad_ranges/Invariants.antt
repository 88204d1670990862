use Rattle.std.proofs.Common.{take}
use Rattle.lw_numbers.specs.Parts.{term_range_of}
use Rattle.lw_faults.specs.Finding.{Finds, OfSome}
use Rattle.lw_gramcheck.specs.BadSites.{BadRange}
use Rattle.lw_gramcheck.proofs.parts.bad_calls.find_bad_ranges.Given as goal

abbrev pub invariant-loop-range : goal.invariant-loop-range
invariant-loop-range l = Finds (OfSome (λ range. BadRange l.fn.terminal (term_range_of range)) (take l.range-index l.range-items)) l.fn.found l.found
