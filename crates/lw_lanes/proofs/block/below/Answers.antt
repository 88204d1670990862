use Rattle.std.proofs.Common.{ap, ◌∙◌, arith, w8, nat_lt}
use Rattle.std.specs.Int.RustNames.{count_ones}
use Rattle.std.proofs.lemmas.Simd.{bitmask_splat, ones-mask_l}
use Rattle.lw_lanes.proofs.block.below.Goals as goal

pub returns : goal.returns
returns c =
    ap count_ones (bitmask_splat w8 nat_lt c.args.block 32 c.args.limit c.fits-block.0 (omega arith))
    ∙ ones-mask_l (λ byte. nat_lt byte c.args.limit) c.args.block
