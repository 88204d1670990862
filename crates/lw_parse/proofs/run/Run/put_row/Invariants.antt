-- What was put so far, from the end down.
use Rattle.std.proofs.Common.{◌≡◌, ◌-◌, ◌≤◌, ◌⊎◌, []}
use Rattle.lw_viable.specs.Moves.{side_by_side}
use Rattle.lw_parse.specs.Running.{state_of, went_on}
use Rattle.lw_parse.proofs.run.Run.put_row.Given as goal

abbrev pub invariant-loop-place : goal.invariant-loop-place
invariant-loop-place l = record {
  from : (l.first ≤ l.place) ⊎ (l.place ≡ l.end);
  made : state_of l.self ≡ went_on (state_of l.fn.self) [] (side_by_side l.place (l.end - l.place)) (state_of l.fn.self).unread;
}
