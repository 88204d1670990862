use Rattle.std.proofs.Common.{[], ◌∷◌, ◌++◌, ◌+◌, List, Option, ℕ, drop, take, refl, sym, ap, subst, subst₂, arith, ◌∙◌}
use Rattle.std.proofs.lemmas.List.{take_all, take-append-drop}
use Rattle.lw_conversation.specs.Watching as watching
use Rattle.lw_conversation.specs.Watching.{SeesChange, SeesChanges}
use Rattle.lw_rpc.specs.declared.file_change.FileChange.{FileChange}
use Rattle.lw_rpc.specs.declared.reply.Reply.{Reply}
use Rattle.lw_session.specs.Moving.{IsDoneByReads}
use Rattle.lw_session.proofs.Handling.{error_there}
use Rattle.lw_session.proofs.Moved.{cut_at_one, cut_behind_seen, one_more, seen_and_behind, seen_next, stays_done}
use Rattle.lw_session.proofs.watching.see_all.Goals as goal

pub changes-init : goal.changes-init
changes-init g c =
    let v = c.args.workspace.now in
    let files = g.F.Store.files c.args.store.now in
    let count = g.F.Store.count c.args.store.now in
    record {
      seen = subst (IsDoneByReads files count count v v (λ m. SeesChanges v.setting m [])) (sym c.new-replies.ensures)
          (stays_done files count count v (λ m. SeesChanges v.setting m []) [] refl (λ m agrees. watching.none));
      setting = refl;
      files = refl;
    }

pub changes-preserved : goal.changes-preserved
changes-preserved g c =
    let u = c.args.workspace.now in
    let v = c.changes.workspace in
    let w = c.see.new.workspace in
    let files = g.F.Store.files c.args.store.now in
    let before = g.F.Store.count c.args.store.now in
    let between = g.F.Store.count c.changes.store in
    let now = g.F.Store.count c.see.new.store in
    let changes = c.args.changes.now in
    let i = c.changes.change-index in
    let change = c.change-item.result in
    let one = subst
    (λ (told : Option (List (List ℕ × List ℕ))). IsDoneByReads told between now v w (λ m. SeesChange v.setting m change.uri change.kind) c.in_ok-told.told)
    c.changes.invariant.files c.in_ok-told.ensures.sees in
    record {
      seen = subst₂ (λ (seen : List FileChange) (replies : List Reply). IsDoneByReads files before now u w (λ m. SeesChanges u.setting m seen) replies)
          (sym (seen_next changes i change (omega arith) c.change-item.is)) (sym c.in_ok-append.ensures)
          (one_more files before between u v c.changes.invariant.setting (take i changes) c.changes.replies c.changes.invariant.seen change now w c.in_ok-told.told one);
      setting = c.in_ok-told.ensures.setting ∙ c.changes.invariant.setting;
      files = c.in_ok-told.ensures.files ∙ c.changes.invariant.files;
    }

pub returns-in_err-told-clause-in_part : goal.returns-in_err-told-clause-in_part
returns-in_err-told-clause-in_part g c =
    let changes = c.args.changes.now in
    let i = c.changes.change-index in
    let change = c.change-item.result in
    error_there c.from_residual.result _
    (cut_at_one (g.F.Store.files c.args.store.now) (g.F.Store.count c.args.store.now) (g.F.Store.count c.changes.store) c.args.workspace.now c.changes.workspace
    c.changes.invariant.setting (take i changes) c.changes.replies c.changes.invariant.seen change changes (drop (i + 1) changes)
    (seen_and_behind changes i change (omega arith) c.change-item.is) c.see.new.workspace c.in_err-told.ensures.lost)

pub returns-in_err-append-clause-in_part : goal.returns-in_err-append-clause-in_part
returns-in_err-append-clause-in_part g c =
    let u = c.args.workspace.now in
    let v = c.changes.workspace in
    let w = c.see.new.workspace in
    let files = g.F.Store.files c.args.store.now in
    let before = g.F.Store.count c.args.store.now in
    let between = g.F.Store.count c.changes.store in
    let now = g.F.Store.count c.see.new.store in
    let changes = c.args.changes.now in
    let i = c.changes.change-index in
    let change = c.change-item.result in
    let one = subst
    (λ (told : Option (List (List ℕ × List ℕ))). IsDoneByReads told between now v w (λ m. SeesChange v.setting m change.uri change.kind) c.in_ok-told.told)
    c.changes.invariant.files c.in_ok-told.ensures.sees in
    error_there c.from_residual-in_err-append.result _
    (cut_behind_seen files before now u w (take i changes ++ change ∷ []) changes (drop (i + 1) changes) (c.changes.replies ++ c.in_ok-told.told)
    (sym (take-append-drop (i + 1) changes)
    ∙ ap (λ (seen : List FileChange). seen ++ drop (i + 1) changes) (seen_next changes i change (omega arith) c.change-item.is))
    (one_more files before between u v c.changes.invariant.setting (take i changes) c.changes.replies c.changes.invariant.seen change now w c.in_ok-told.told one))

pub returns-clause-sees : goal.returns-clause-sees
returns-clause-sees g c =
    let u = c.args.workspace.now in
    subst
    (λ (seen : List FileChange).
    IsDoneByReads (g.F.Store.files c.args.store.now) (g.F.Store.count c.args.store.now) (g.F.Store.count c.changes.store) u c.changes.workspace
    (λ m. SeesChanges u.setting m seen) c.changes.replies)
    (take_all c.changes.change-index c.args.changes.now (omega arith)) c.changes.invariant.seen
