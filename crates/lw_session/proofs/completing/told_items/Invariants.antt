use Rattle.std.proofs.Common.{take}
use Rattle.std.specs.List.{AllZip}
use Rattle.lw_session.specs.Completing.{IsItemTold}
use Rattle.lw_session.proofs.completing.told_items.Given as goal

abbrev pub invariant-items : goal.invariant-items
invariant-items l = AllZip (IsItemTold l.text) (take l.item-index l.items) l.told
