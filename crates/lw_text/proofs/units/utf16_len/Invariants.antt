use Rattle.std.proofs.Common.{◌≡◌, ◌-◌, length, sum_by, take, chars, IsCharBoundary}
use Rattle.lw_text.specs.Position.{utf16_len}
use Rattle.lw_text.proofs.units.utf16_len.Given as goal

abbrev pub invariant-pieces : goal.invariant-pieces
invariant-pieces l = record {
  boundary : IsCharBoundary l.text l.place;
  counted : l.units ≡ sum_by utf16_len (chars (take l.place l.text));
}

abbrev pub decreases-pieces : goal.decreases-pieces
decreases-pieces l = length l.text - l.place
