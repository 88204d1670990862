-- What was put so far, from the end down.
use Rattle.std.proofs.Common.{◌≡◌, ◌-◌, ◌≤◌, ◌⊎◌, None}
use Rattle.lw_viable.specs.Growing.{GrowsLists, IsMadeFront, changed, read}
use Rattle.lw_viable.specs.Moves.{side_by_side}
use Rattle.lw_viable.proofs.lists.Lists.row.Given as goal

abbrev pub invariant-loop-place : goal.invariant-loop-place
invariant-loop-place l = record {
  from : (l.first ≤ l.place) ⊎ (l.place ≡ l.end);
  grows : GrowsLists l.fn.self l.self;
  made : IsMadeFront (l.end - l.place) l.fn.self l.self l.fn.front l.made (changed (read l.fn.self l.fn.front) (None, side_by_side l.place (l.end - l.place)));
}
