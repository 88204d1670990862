use Rattle.std.proofs.Common.{ap, ◌∙◌}
use Rattle.std.specs.Int.RustNames.{count_ones}
use Rattle.std.proofs.lemmas.Simd.{ones-mask_l}
use Rattle.lw_lanes.specs.LineBreak.{is_break}
use Rattle.lw_lanes.proofs.counts.BreakCounted.in_block.Goals as goal

pub returns : goal.returns
returns c = ap count_ones c.break_marks.ensures ∙ ones-mask_l is_break c.args.block
