use Rattle.std.proofs.Common.{◌≡◌, ◌++◌, string_bytes}
use Rattle.std.specs.List.{flat_map, range_with_len}
use Rattle.lw_make.specs.Made.{state_line}
use Rattle.lw_make.proofs.documents.write_states.Given as goal

abbrev pub invariant-states : goal.invariant-states
invariant-states l = string_bytes l.out ≡ string_bytes l.initial.out ++ flat_map (state_line l.document l.next) (range_with_len 0 l.state)
