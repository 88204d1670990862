use Rattle.std.proofs.Common.{◌≡◌, length}
use Rattle.lw_lexer.specs.Known.{AreKnownIn}
use Rattle.lw_lexer.proofs.known.known_lengths.Given as goal

abbrev pub invariant-loop-i : goal.invariant-loop-i
invariant-loop-i l = record {
  count : length l.known.items ≡ l.i;
  known : AreKnownIn l.set.lexicon.terminals l.text l.known.items;
}
