use Rattle.std.proofs.Common.{◌≡◌, ◌+◌, take}
use Rattle.lw_numbers.specs.Standing.{StandAmong}
use Rattle.lw_numbers.proofs.standing.standings.Given as goal

abbrev pub invariant-loop-item : goal.invariant-loop-item
invariant-loop-item g l =
    (l.number ≡ l.first + l.item-index) × StandAmong g.T.Declared.declaration l.first (take l.item-index l.declared) l.standings.by_name.entries
