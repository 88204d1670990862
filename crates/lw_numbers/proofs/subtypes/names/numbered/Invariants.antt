use Rattle.std.proofs.Common.{◌≡◌, [], take, bytes_eq}
use Rattle.indexmap.specs.IndexSet.{insert_all}
use Rattle.lw_grammar.specs.declared.grammar.Grammar.{Grammar}
use Rattle.lw_numbers.specs.Numbering.{type_names}
use Rattle.lw_numbers.specs.Tables.{AreNumbersOf}
use Rattle.lw_numbers.proofs.subtypes.names.numbered.Given as goal

abbrev pub invariant-loop-number : goal.invariant-loop-number
invariant-loop-number l = (g : Grammar) → AreNumbersOf g l.numbers → l.names.set.keys ≡ insert_all bytes_eq [] (take l.number (type_names g))
