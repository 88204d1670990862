-- A keyword kind is a keyword that a rule writes.
use Rattle.lw_reading.proofs.OneKinds.{filled_rules}
use Rattle.lw_reading.proofs.laws.filled_rules.Goals as goal

pub returns : goal.returns
returns c = filled_rules
