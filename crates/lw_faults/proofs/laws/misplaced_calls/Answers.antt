-- Each way is written out.
use Rattle.lw_faults.proofs.CallsWorked.{behind, before, repeated, optional, token}
use Rattle.lw_faults.proofs.laws.misplaced_calls.Goals as goal

pub returns : goal.returns
returns c = record { behind = behind; before = before; repeated = repeated; optional = optional; token = token }
