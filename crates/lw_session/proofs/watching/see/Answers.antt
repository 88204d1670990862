use Rattle.std.proofs.Common.{[], List, refl, sym, subst, true≢false}
use Rattle.std.proofs.lemmas.Result.{IfOk-weaker}
use Rattle.lw_build.specs.Agreeing.{Agrees}
use Rattle.lw_conversation.specs.Reading.{Asked}
use Rattle.lw_conversation.specs.Watching as watching
use Rattle.lw_conversation.specs.Watching.{LoadsAgain, SeesChange}
use Rattle.lw_machine.specs.Documents.{Documents}
use Rattle.lw_rpc.specs.declared.reply.Reply.{Reply}
use Rattle.lw_session.specs.Moving.{IsDoneByReads, RemovesHeld}
use Rattle.lw_session.proofs.Known.{is_open, none_open}
use Rattle.lw_session.proofs.Moved.{done_on, if_lost, if_unasked, not_deleted, sees_removal, stays_done}
use Rattle.lw_session.proofs.watching.see.Goals as goal

pub returns-then-is_open-clause-sees : goal.returns-then-is_open-clause-sees
returns-then-is_open-clause-sees g c =
    let v = c.args.workspace.now in
    let change = c.args.change.now in
    let files = g.F.Store.files c.args.store.now in
    let count = g.F.Store.count c.args.store.now in
    let here = c.if-is_open.ensures.0 refl in
    subst (IsDoneByReads files count count v v (λ m. SeesChange v.setting m change.uri change.kind)) (sym c.new.ensures)
    (stays_done files count count v (λ m. SeesChange v.setting m change.uri change.kind) [] refl
    (λ m agrees. watching.is_open (is_open v m agrees change.uri here.0 here.1 here.2).1))

pub returns-in-Deleted-clause-sees : goal.returns-in-Deleted-clause-sees
returns-in-Deleted-clause-sees g c =
    let v = c.args.workspace.now in
    let change = c.args.change.now in
    if_unasked c.remove_document.result (g.F.Store.files c.args.store.now) (g.F.Store.count c.args.store.now) v c.remove_document.new.workspace
    (λ m n replies. RemovesHeld v.setting m change.uri n replies) (λ m. SeesChange v.setting m change.uri change.kind)
    (λ m n replies agrees removes.
    sees_removal v.setting m change.uri change.kind n replies c.in-Deleted.is
    (none_open v m agrees change.uri (λ here. true≢false (sym (c.if-is_open.ensures.1 here)))) removes)
    c.remove_document.ensures.removed

pub returns-in-Deleted-clause-lost : goal.returns-in-Deleted-clause-lost
returns-in-Deleted-clause-lost g c =
    let v = c.args.workspace.now in
    let change = c.args.change.now in
    if_lost c.remove_document.result v c.remove_document.new.workspace (λ m n. (replies : List Reply) × RemovesHeld v.setting m change.uri n replies)
    (λ m. SeesChange v.setting m change.uri change.kind)
    (λ m n agrees left. (
      [],
      left.0,
      sees_removal v.setting m change.uri change.kind n left.0 c.in-Deleted.is
          (none_open v m agrees change.uri (λ here. true≢false (sym (c.if-is_open.ensures.1 here)))) left.1,
    ))
    c.remove_document.ensures.lost

pub returns-in-Created : goal.returns-in-Created
returns-in-Created g c =
    let v = c.args.workspace.now in
    let change = c.args.change.now in
    let sees = λ (m n : Documents) (asked : List Asked) (replies : List Reply) (agrees : Agrees v m) (loads : LoadsAgain v.setting m change.uri asked n replies).
    watching.loads (not_deleted change.kind c.in-Created.is)
    (none_open v m agrees change.uri (λ here. true≢false (sym (c.if-is_open.ensures.1 here)))) loads in
    record {
      sees = IfOk-weaker c.load_again.result _ _
          (λ replies is.
          done_on (g.F.Store.files c.args.store.now) (g.F.Store.count c.args.store.now) (g.F.Store.count c.load_again.new.store) v c.load_again.new.workspace
          (λ m. LoadsAgain v.setting m change.uri) (λ m. SeesChange v.setting m change.uri change.kind) sees replies is)
          c.load_again.ensures.loads;
      lost = if_lost c.load_again.result v c.load_again.new.workspace
          (λ m n. (asked : List Asked) × (replies : List Reply) × LoadsAgain v.setting m change.uri asked n replies) (λ m. SeesChange v.setting m change.uri change.kind)
          (λ m n agrees left. (left.0, left.1, sees m n left.0 left.1 agrees left.2)) c.load_again.ensures.lost;
      setting = c.load_again.ensures.setting;
      files = c.load_again.ensures.files;
    }
