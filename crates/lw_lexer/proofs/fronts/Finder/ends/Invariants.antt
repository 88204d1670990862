use Rattle.std.proofs.Common.{◌≡◌}
use Rattle.lw_lexer.specs.Fronts.{AreEnds}
use Rattle.lw_lexer.proofs.fronts.Finder.ends.Given as goal

abbrev pub invariant-loop-byte : goal.invariant-loop-byte
invariant-loop-byte l = record {
  ends : AreEnds l.fn.self.lexicon l.text l.own l.ends;
  same : l.self ≡ l.fn.self;
}
