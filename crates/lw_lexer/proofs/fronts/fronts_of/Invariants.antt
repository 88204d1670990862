use Rattle.std.proofs.Common.{◌≡◌}
use Rattle.lw_lexer.specs.Fronts.{AreFronts}
use Rattle.lw_lexer.proofs.fronts.fronts_of.Given as goal

abbrev pub invariant-loop-byte : goal.invariant-loop-byte
invariant-loop-byte l = record {
  finder : l.finder ≡ l.set;
  table : AreFronts l.set.lexicon l.table.items;
}
