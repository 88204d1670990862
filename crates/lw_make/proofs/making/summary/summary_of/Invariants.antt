use Rattle.std.proofs.Common.{◌≡◌, drop}
use Rattle.lw_make.specs.Counting.{of_none, with_all}
use Rattle.lw_make.proofs.making.summary.summary_of.Given as goal

abbrev pub invariant-views : goal.invariant-views
invariant-views l =
    with_all l.workspace.kept l.summary (drop l.view-index l.view-items) ≡ with_all l.workspace.kept (of_none l.published) l.view-items
