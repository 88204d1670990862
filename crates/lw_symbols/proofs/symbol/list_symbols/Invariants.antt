use Rattle.lw_symbols.specs.Symbols.{AreAmongFirst}
use Rattle.lw_symbols.proofs.symbol.list_symbols.Given as goal

abbrev pub invariant-loop-number : goal.invariant-loop-number
invariant-loop-number l = AreAmongFirst l.tree l.number l.list.items
