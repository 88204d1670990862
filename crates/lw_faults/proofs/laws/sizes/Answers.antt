-- Rules are counted.
use Rattle.std.proofs.Common.{arith}
use Rattle.lw_faults.proofs.SizesWorked.{many, few}
use Rattle.lw_faults.proofs.laws.sizes.Goals as goal

pub returns : goal.returns
returns c = record { too_many = many 1024 (omega arith); most = few 1023 (omega arith) }
