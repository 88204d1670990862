use Rattle.std.proofs.Common.{subst, sym, arith}
use Rattle.lw_flow.specs.Rows.{AreEmptyRows}
use Rattle.lw_flow.proofs.TableLemmas.{none_behind}
use Rattle.lw_flow.proofs.tables.empty_rows.Goals as goal

pub loop-row-preserved : goal.loop-row-preserved
loop-row-preserved g c = record {
  count = omega (arith, c.loop-row.invariant.count, c.in_ok-push.ensures.len);
  none =
      subst AreEmptyRows (sym c.in_ok-push.ensures.items) (none_behind c.loop-row.table.items c.new.result c.new.ensures.empty c.loop-row.invariant.none);
}
