use Rattle.std.proofs.Common.{List, IfOk, sym, subst}
use Rattle.std.proofs.lemmas.Result.{IfOk-weaker}
use Rattle.lw_build.specs.View.{WorkspaceView}
use Rattle.lw_rpc.specs.declared.reply.Reply.{Reply}
use Rattle.lw_session.specs.Moving.{Moves, PutsFile}
use Rattle.lw_session.proofs.Answers.{too_many_put}
use Rattle.lw_session.proofs.Moved.{file_put, no_room}
use Rattle.lw_session.proofs.files.put_file.Goals as goal

pub returns-in-Ok-clause-put : goal.returns-in-Ok-clause-put
returns-in-Ok-clause-put c =
    let v = c.args.workspace.now in
    let w = c.put.new.self in
    subst (λ (replies : List Reply). Moves v w (λ m n. PutsFile m c.args.address.now c.args.text n replies)) (sym c.new.ensures)
    (file_put v c.args.address.now w c.args.text c.agrees.ensures.few c.in-Ok.ensures.agrees c.in-Ok.ensures.fits.1)

pub returns-in-Err-TooMany-clause-put : goal.returns-in-Err-TooMany-clause-put
returns-in-Err-TooMany-clause-put c =
    let v = c.args.workspace.now in
    let address = c.args.address.now in
    let many = too_many_put v address c.args.text c.in-Err-TooMany.field-0 c.in-Err-TooMany.field-0-is c.in-Err-TooMany.ensures.fault in
    subst (λ (w : WorkspaceView). IfOk c.logs.result (λ replies. Moves v w (λ m n. PutsFile m address c.args.text n replies))) (sym c.in-Err-TooMany.ensures.refused)
    (IfOk-weaker c.logs.result _ _
    (λ replies is. subst (λ (rs : List Reply). Moves v v (λ m n. PutsFile m address c.args.text n rs)) (sym is) (no_room v address c.args.text many.1))
    c.logs.ensures)
