use Rattle.std.proofs.Common.{◌+◌, ◌%◌, ℕ}
use Rattle.std.proofs.lemmas.Simd.{zip2_splat}
use Rattle.lw_lanes.proofs.block.raised.Goals as goal

pub returns : goal.returns
returns c = zip2_splat (λ (byte step : ℕ). (byte + step) % 256) c.args.block 32 c.args.step c.fits-block.0
