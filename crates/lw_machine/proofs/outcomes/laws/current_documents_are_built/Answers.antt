-- The build has an end, which is current and of the same content, and there is one.
use Rattle.lw_machine.proofs.SameEnds.{built_by_any}
use Rattle.lw_machine.proofs.outcomes.laws.current_documents_are_built.Goals as goal

pub returns : goal.returns
returns c = built_by_any
