use Rattle.std.proofs.Common.{take}
use Rattle.lw_numbers.specs.NameTable.{PutsNames, IsNumberedIn}
use Rattle.lw_numbers.proofs.name_rules.name_rules.put_each.Given as goal

abbrev pub invariant-loop-number : goal.invariant-loop-number
invariant-loop-number l = PutsNames (IsNumberedIn l.subtypes.names (take l.number-index l.numbers)) l.name l.initial.called.entries l.called.entries
