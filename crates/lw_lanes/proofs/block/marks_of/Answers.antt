use Rattle.std.proofs.Common.{arith, w8, nat_eq}
use Rattle.std.proofs.lemmas.Simd.{bitmask_splat}
use Rattle.lw_lanes.proofs.block.marks_of.Goals as goal

pub returns : goal.returns
returns c = bitmask_splat w8 nat_eq c.args.block 32 c.args.byte c.fits-block.0 (omega arith)
