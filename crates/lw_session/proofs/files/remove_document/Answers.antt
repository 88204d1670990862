use Rattle.std.proofs.Common.{List, map, ap, refl, sym, subst, inr, ◌∙◌}
use Rattle.std.proofs.lemmas.Result.{IfOk-weaker}
use Rattle.lw_build.specs.View.{WorkspaceView}
use Rattle.lw_conversation.specs.Publishing.{as_reply}
use Rattle.lw_machine.specs.Events.{farewell}
use Rattle.lw_rpc.specs.declared.reply.Reply.{Reply}
use Rattle.lw_session.specs.Moving.{Moves, RemovesHeld}
use Rattle.lw_session.proofs.Handling.{error_there}
use Rattle.lw_session.proofs.Moved.{moves_on, none_removed, not_there, removed}
use Rattle.lw_session.proofs.files.remove_document.Goals as goal

pub returns-in-Ok-clause-removed : goal.returns-in-Ok-clause-removed
returns-in-Ok-clause-removed c =
    let address = c.args.address.now in
    let held = c.in-Ok.ensures.told in
    IfOk-weaker c.farewells.result _ _
    (λ replies is.
    removed c.args.workspace.now address c.remove.new.self held.0 held.1 c.in-Ok.ensures.agrees replies (is ∙ ap (map as_reply) (sym held.2)))
    c.farewells.ensures

pub returns-in-Ok-clause-lost : goal.returns-in-Ok-clause-lost
returns-in-Ok-clause-lost c =
    let v = c.args.workspace.now in
    let w = c.remove.new.self in
    let address = c.args.address.now in
    let held = c.in-Ok.ensures.told in
    let replies = map as_reply (farewell address held.0.doc.published) in
    error_there c.farewells.result _
    (inr
    (moves_on {v = v} {w = w} (λ m n agrees removes. (replies, removes))
    (removed v address w held.0 held.1 c.in-Ok.ensures.agrees replies refl)))

pub returns-in-Err-NoDocument-clause-removed : goal.returns-in-Err-NoDocument-clause-removed
returns-in-Err-NoDocument-clause-removed c =
    let v = c.args.workspace.now in
    let address = c.args.address.now in
    let is = c.in-Err-NoDocument in
    subst (λ (w : WorkspaceView). Moves v w (λ m n. RemovesHeld v.setting m address n c.new.result)) (sym is.ensures.refused)
    (subst (λ (replies : List Reply). Moves v v (λ m n. RemovesHeld v.setting m address n replies)) (sym c.new.ensures)
    (none_removed v address (not_there v address is.field-0 is.field-0-is is.ensures.fault)))
