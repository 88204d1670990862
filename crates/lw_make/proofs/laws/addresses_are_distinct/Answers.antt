use Rattle.std.proofs.Common.{arith}
use Rattle.lw_make.proofs.Addresses.{made_address-injective}
use Rattle.lw_make.proofs.laws.addresses_are_distinct.Goals as goal

pub returns : goal.returns
returns c = λ document other low also same. made_address-injective document other (omega arith) (omega arith) same
