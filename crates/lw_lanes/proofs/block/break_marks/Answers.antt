use Rattle.std.proofs.Common.{◌∙◌, ap₂, bit_or, nat_eq}
use Rattle.lw_lanes.proofs.Masks.{or-mask_l}
use Rattle.lw_lanes.proofs.block.break_marks.Goals as goal

pub returns : goal.returns
returns c =
    ap₂ bit_or c.marks_of.ensures c.marks_of-2.ensures
    ∙ or-mask_l (λ byte. nat_eq byte 10) (λ byte. nat_eq byte 13) c.args.block
