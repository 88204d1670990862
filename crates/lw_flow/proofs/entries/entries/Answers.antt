use Rattle.std.proofs.Common.{sym, subst}
use Rattle.lw_flow.specs.Entries.{AreEntriesOf}
use Rattle.lw_flow.proofs.EntryLemmas.{entries_more}
use Rattle.lw_flow.proofs.entries.entries.Goals as goal

pub loop-visit-preserved : goal.loop-visit-preserved
loop-visit-preserved c =
    let visits = c.args.visits.now in
    subst (AreEntriesOf _) (sym c.in_ok-push.ensures.items)
    (entries_more visits c.loop-visit.visit-index c.visit-item.result c.loop-visit.list.items c.in_ok-visit_entry.field-0 c.loop-visit-test.true c.visit-item.is
    c.loop-visit.invariant c.in_ok-visit_entry.ensures)
