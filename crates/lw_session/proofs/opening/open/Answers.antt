use Rattle.std.proofs.Common.{◌≡◌, [], ℤ, IfOk, Some, true, rules, sym, subst, to_z, of_z, w64}
use Rattle.std.proofs.lemmas.Result.{IfOk-weaker}
use Rattle.lw_build.specs.Agreeing.{Agrees}
use Rattle.lw_build.specs.View.{WorkspaceView, documents}
use Rattle.lw_machine.specs.Events.{put}
use Rattle.lw_session.specs.Answering.{IsAnswered}
use Rattle.lw_session.specs.Lifecycle.{opened_message}
use Rattle.lw_session.specs.declared.lifecycle.Told.{Told}
use Rattle.lw_session.proofs.Answers as comes
use Rattle.lw_session.proofs.opening.open.Goals as goal

pub returns-in-Ok-clause-answered : goal.returns-in-Ok-clause-answered
returns-in-Ok-clause-answered c =
    let v = c.args.workspace.now in
    let opened = c.args.opened in
    let same : to_z w64 (of_z w64 opened.id.version) ≡ opened.id.version = search rules in
    let after : Agrees c.put.new.self (put (documents v) opened.id.address opened.text (Some opened.id.version) true) =
    subst (λ (version : ℤ). Agrees c.put.new.self (put (documents v) opened.id.address opened.text (Some version) true)) same
    (c.in-Ok.ensures.agrees (documents v) c.agrees.ensures.agrees) in
    subst (λ (told : Told). IsAnswered v c.put.new.self c.args.phase (opened_message opened) [] told) (sym c.keeps_silent.ensures)
    (comes.puts v c.put.new.self c.args.phase c.requires c.agrees.ensures.agrees opened after c.in-Ok.ensures.fits.0 c.agrees.ensures.few
    c.in-Ok.ensures.fits.1)

pub returns-in-Err-TooLong-clause-answered : goal.returns-in-Err-TooLong-clause-answered
returns-in-Err-TooLong-clause-answered c =
    let v = c.args.workspace.now in
    let message = opened_message c.args.opened in
    let long = comes.too_long_put v c.args.opened.id.address c.args.opened.text c.in-Err-TooLong.field-0 c.in-Err-TooLong.field-0-0 c.in-Err-TooLong.field-0-is
    c.in-Err-TooLong.ensures.fault in
    subst (λ (w : WorkspaceView). IfOk c.log.result (IsAnswered v w c.args.phase message [])) (sym c.in-Err-TooLong.ensures.refused)
    (IfOk-weaker c.log.result _ _
    (λ told is.
    subst (λ (t : Told). IsAnswered v v c.args.phase message [] t) (sym is)
    (comes.too_long v c.args.phase c.requires c.agrees.ensures.agrees c.args.opened long))
    c.log.ensures)

pub returns-in-Err-TooMany-clause-answered : goal.returns-in-Err-TooMany-clause-answered
returns-in-Err-TooMany-clause-answered c =
    let v = c.args.workspace.now in
    let message = opened_message c.args.opened in
    let many = comes.too_many_put v c.args.opened.id.address c.args.opened.text c.in-Err-TooMany.field-0 c.in-Err-TooMany.field-0-is
    c.in-Err-TooMany.ensures.fault in
    subst (λ (w : WorkspaceView). IfOk c.log-in-Err-TooMany.result (IsAnswered v w c.args.phase message [])) (sym c.in-Err-TooMany.ensures.refused)
    (IfOk-weaker c.log-in-Err-TooMany.result _ _
    (λ told is.
    subst (λ (t : Told). IsAnswered v v c.args.phase message [] t) (sym is)
    (comes.too_many v c.args.phase c.requires c.agrees.ensures.agrees c.args.opened many.0 many.1))
    c.log-in-Err-TooMany.ensures)
