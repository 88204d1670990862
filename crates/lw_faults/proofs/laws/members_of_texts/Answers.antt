-- The rule that is read gives the type.
use Rattle.lw_faults.proofs.TextsWorked.{string, of_rule, number, node, union}
use Rattle.lw_faults.proofs.laws.members_of_texts.Goals as goal

pub returns : goal.returns
returns c = record { string = string; of_rule = of_rule; number = number; node = node; union = union }
