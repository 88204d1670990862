use Rattle.std.proofs.Common.{take}
use Rattle.lw_flow.specs.Entries.{AreEntriesOf}
use Rattle.lw_flow.proofs.entries.entries.Given as goal

abbrev pub invariant-loop-visit : goal.invariant-loop-visit
invariant-loop-visit l = AreEntriesOf (take l.visit-index l.visits) l.list.items
