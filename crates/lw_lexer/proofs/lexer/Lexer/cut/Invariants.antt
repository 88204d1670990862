use Rattle.std.proofs.Common.{◌≡◌, ◌-◌, length, All, IsCharBoundary}
use Rattle.lw_tokens.specs.Cut.{IsCutTo}
use Rattle.lw_tokens.specs.Keywords.{AreKeywords}
use Rattle.lw_matchers.specs.TokenKinds.{AreTokenKinds}
use Rattle.lw_lexer.specs.Fronts.{AreFronts}
use Rattle.lw_lexer.specs.Known.{AreInTurn, AreKnownIn}
use Rattle.lw_lexer.specs.TokenPlaces.{IsTokenPlace}
use Rattle.lw_lexer.proofs.lexer.Lexer.cut.Given as goal

abbrev pub invariant-cutting : goal.invariant-cutting
invariant-cutting l = record {
  set : l.self-inside.set.now ≡ l.fn.self;
  keywords : AreKeywords l.fn.self.lexicon.keywords;
  kinds : AreTokenKinds l.self-inside.set.now;
  fronts : AreFronts l.self-inside.set.now.lexicon l.self-inside.fronts.now;
  nfas : AreInTurn l.self-inside.set.now.lexicon.terminals l.self-inside.nfas.now;
  matchers : l.self-inside.matchers.items ≡ l.self-inside.set.now.lexicon.terminals;
  known : AreKnownIn l.fn.self.lexicon.terminals l.text l.known.items;
  boundary : IsCharBoundary l.text l.at;
  cut : IsCutTo l.fn.self.lexicon l.text l.at l.tokens.items;
  places : All (IsTokenPlace l.text) l.tokens.items;
}

abbrev pub decreases-cutting : goal.decreases-cutting
decreases-cutting l = length l.text - l.at
