use Rattle.std.proofs.Common.{take}
use Rattle.lw_link.proofs.Entered.{AreEntriesAmong}
use Rattle.lw_link.proofs.entering.entries.Given as goal

-- the entries of the nodes so far
abbrev pub invariant-loop-node : goal.invariant-loop-node
invariant-loop-node l = AreEntriesAmong l.tree (take l.node-index l.node-items) l.found.items
