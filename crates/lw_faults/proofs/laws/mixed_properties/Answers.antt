-- What is put in is the one or the other.
use Rattle.lw_faults.proofs.MixedWorked.{one_then_list, list_then_one, ones, lists, unknown}
use Rattle.lw_faults.proofs.laws.mixed_properties.Goals as goal

pub returns : goal.returns
returns c = record { one_then_list = one_then_list; list_then_one = list_then_one; ones = ones; lists = lists; unknown = unknown }
