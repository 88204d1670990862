use Rattle.lw_make.proofs.Behind.{edit_goes_behind}
use Rattle.lw_make.proofs.laws.edits_go_behind_the_model.Goals as goal

pub returns-clause-text : goal.returns-clause-text
returns-clause-text c = edit_goes_behind
