use Rattle.std.proofs.Common.{take}
use Rattle.std.specs.List.{AllZip}
use Rattle.lw_terminals.specs.Sources.{IsSourceOf}
use Rattle.lw_terminals.proofs.sources.short_sources.Given as goal

abbrev pub invariant-loop-i : goal.invariant-loop-i
invariant-loop-i l = AllZip (IsSourceOf l.g) (take l.i l.kinds.terminals) l.terminals.items
