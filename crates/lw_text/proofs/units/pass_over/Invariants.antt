use Rattle.std.proofs.Common.{◌≡◌, ◌+◌, ◌-◌, length, sum_by, take, chars, IsCharBoundary}
use Rattle.lw_text.specs.Position.{units_of}
use Rattle.lw_text.proofs.units.pass_over.Given as goal

abbrev pub invariant-strides : goal.invariant-strides
invariant-strides l = record {
  boundary : IsCharBoundary l.text l.place;
  counted : l.left + sum_by (units_of l.enc) (chars (take l.place l.text)) ≡ l.units;
}

abbrev pub decreases-strides : goal.decreases-strides
decreases-strides l = length l.text - l.place
