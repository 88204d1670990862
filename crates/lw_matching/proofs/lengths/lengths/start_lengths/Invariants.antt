use Rattle.std.proofs.Common.{◌≡◌, ℕ, ◌+◌, ◌<◌, ◌≤◌, false, Some, length, vec_len, drop, slice_get}
use Rattle.lw_matching.specs.Rows.{IsRow, end_from}
use Rattle.lw_matching.proofs.lengths.lengths.start_lengths.Given as goal

abbrev pub invariant-loop-step : goal.invariant-loop-step
invariant-loop-step l = record {
  row : vec_len l.row ≡ vec_len l.nfa.states;
  behind : vec_len l.behind ≡ vec_len l.nfa.states;
  is_row : (at : ℕ) → at + l.step ≡ length l.text → at < length l.text → IsRow l.nfa l.text (at + 1) false l.behind.items;
  count : vec_len l.lengths ≡ length l.text + 1;
  each : (at : ℕ) → length l.text < at + l.step → at ≤ length l.text → slice_get l.lengths.items at ≡ Some (end_from l.nfa (drop at l.text) l.nfa.start 0);
}
