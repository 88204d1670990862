use Rattle.lw_lang.specs.ToldLooks as told
use Rattle.lw_lang.proofs.told_look.told_look.Goals as goal

pub returns-in-Conflict-clause-told : goal.returns-in-Conflict-clause-told
returns-in-Conflict-clause-told c = rw c.in-Conflict.is (told.conflict c.told_conflict.ensures)

pub returns-in-TooMany-clause-told : goal.returns-in-TooMany-clause-told
returns-in-TooMany-clause-told c = rw c.in-TooMany.is told.many
