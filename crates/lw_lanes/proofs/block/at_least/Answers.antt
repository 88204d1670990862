use Rattle.std.proofs.Common.{ap, ◌∙◌, nat_le}
use Rattle.std.specs.Int.RustNames.{count_ones}
use Rattle.std.proofs.lemmas.Simd.{ones-mask_l}
use Rattle.lw_lanes.proofs.Masks.{splat_le-mask_l}
use Rattle.lw_lanes.proofs.block.at_least.Goals as goal

pub returns : goal.returns
returns c =
    ap count_ones (splat_le-mask_l c.args.limit c.args.block c.fits-block.0)
    ∙ ones-mask_l (nat_le c.args.limit) c.args.block
