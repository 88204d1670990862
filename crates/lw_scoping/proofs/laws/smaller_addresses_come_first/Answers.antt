use Rattle.lw_scoping.proofs.Addresses.{smallest_address, other_root}
use Rattle.lw_scoping.proofs.laws.smaller_addresses_come_first.Goals as goal

pub returns : goal.returns
returns c = record { exports = smallest_address; roots = other_root }
