use Rattle.std.proofs.lemmas.Result.{IfOk-weaker}
use Rattle.lw_conversation.specs.Asking as tell
use Rattle.lw_session.proofs.asking.reply_to.Goals as goal

pub returns-in-Definition : goal.returns-in-Definition
returns-in-Definition c = rw c.in-Definition.is (tell.definition c.in_ok-outcome-in-Definition.ensures)

pub returns-in-References : goal.returns-in-References
returns-in-References c = rw c.in-References.is (tell.references c.in_ok-outcome-in-References.ensures)

pub returns-in-Rename : goal.returns-in-Rename
returns-in-Rename c = rw c.in-Rename.is (IfOk-weaker c.rename_at.result _ _ (λ reply is. tell.rename is) c.rename_at.ensures)

pub returns : goal.returns
returns c = rw c.in-Completion.is (tell.completion c.in_ok-outcome-in-Completion.ensures)
