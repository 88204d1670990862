use Rattle.std.proofs.Common.{subst, sym, arith}
use Rattle.std.specs.List.{AllZip}
use Rattle.lw_base.proofs.Rows.{zip_more}
use Rattle.lw_session.specs.Completing.{IsItemTold}
use Rattle.lw_session.proofs.completing.told_items.Goals as goal

pub items-preserved : goal.items-preserved
items-preserved c =
    subst (AllZip (IsItemTold c.args.text.now) _) (sym c.in_ok-push.ensures.ok)
    (zip_more (IsItemTold c.args.text.now) c.args.items.now c.items.told c.items.item-index c.item-item.result c.in_ok-told_item.field-0 (omega arith)
    c.item-item.is c.items.invariant c.in_ok-told_item.ensures)
