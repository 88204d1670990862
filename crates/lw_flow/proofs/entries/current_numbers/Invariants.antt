use Rattle.std.proofs.Common.{◌≡◌, [], Some, take}
use Rattle.lw_flow.specs.Entries.{current_of}
use Rattle.lw_flow.specs.Sets.{AddsFrom}
use Rattle.lw_flow.proofs.entries.current_numbers.Given as goal

abbrev pub invariant-loop-mark : goal.invariant-loop-mark
invariant-loop-mark l = AddsFrom (λ m n. current_of m ≡ Some n) [] (take l.mark-index l.marks) l.numbers.keys
