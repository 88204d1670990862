use Rattle.std.proofs.Common.{◌<◌, ◌∙◌, sym, ap, arith, map}
use lib.Count.{count_trailing_zeros}
use Rattle.std.specs.Simd.Lanes.{mask_l}
use Rattle.std.proofs.lemmas.Simd.{leading_from_mask_l, trailing_mask_l}
use Rattle.lw_lanes.specs.LineBreak.{is_break}
use Rattle.lw_lanes.proofs.breaks.first_break_in.Goals as goal

pub returns-then-marks-eq0 : goal.returns-then-marks-eq0
returns-then-marks-eq0 c =
    sym (leading_from_mask_l is_break c.args.block (sym c.break_marks-marks.ensures ∙ c.if-marks-eq0.true) ∙ c.fits-block.0)

pub returns-else-marks-eq0 : goal.returns-else-marks-eq0
returns-else-marks-eq0 c =
    let some : 0 < mask_l (map is_break c.args.block) = omega (arith, c.break_marks-marks.ensures) in
    ap (count_trailing_zeros 64) c.break_marks-marks.ensures
    ∙ trailing_mask_l is_break 64 c.args.block (omega arith) some
