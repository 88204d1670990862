use Rattle.std.proofs.Common.{◌≡◌, All}
use Rattle.lw_lexer.specs.Fronts.{IsFront}
use Rattle.lw_lexer.proofs.fronts.Finder.starting_with.Given as goal

abbrev pub invariant-loop-place : goal.invariant-loop-place
invariant-loop-place l = record {
  fronts : All (IsFront l.fn.self.lexicon) l.fronts.items;
  same : l.self ≡ l.fn.self;
}
