use Rattle.std.proofs.Common.{◌≡◌, take}
use Rattle.lw_conversation.specs.Watching.{SeesChanges}
use Rattle.lw_session.specs.Moving.{IsDoneByReads}
use Rattle.lw_session.proofs.watching.see_all.Given as goal

-- the changes so far were seen
abbrev pub invariant-changes : goal.invariant-changes
invariant-changes g l = record {
  seen : IsDoneByReads (g.F.Store.files l.fn.store) (g.F.Store.count l.fn.store) (g.F.Store.count l.store) l.fn.workspace l.workspace
      (λ m. SeesChanges l.fn.workspace.setting m (take l.change-index l.changes)) l.replies;
  setting : l.workspace.setting ≡ l.fn.workspace.setting;
  files : g.F.Store.files l.store ≡ g.F.Store.files l.fn.store;
}
