use Rattle.std.proofs.Common.{◌≡◌, length}
use Rattle.lw_grammar.specs.Kinds.{Kinds, AreKinds}
use Rattle.lw_look.specs.Heads.{AreTrueHeads}
use Rattle.lw_first.specs.Sets.{IsInSet}
use Rattle.lw_first.specs.Rounds.{AreRulesSettled, rounds_left}
use Rattle.lw_first.proofs.rounds.Work.sets.Given as goal

abbrev pub invariant-rounds : goal.invariant-rounds
invariant-rounds l = record {
  flags : length l.waiting.items ≡ length l.self.lexicon.g.now.rules;
  size : length l.sets.items ≡ length l.self.lexicon.g.now.rules;
  true_heads : (kinds : Kinds) → AreKinds l.self.lexicon.g.now kinds → AreTrueHeads l.self.lexicon.g.now kinds l.self.k (IsInSet l.sets.items);
  settled : (kinds : Kinds) → AreKinds l.self.lexicon.g.now kinds → AreRulesSettled l.self.lexicon.g.now kinds l.self.k (l.waiting.items, l.sets.items);
}

abbrev pub decreases-rounds : goal.decreases-rounds
decreases-rounds l = rounds_left (l.waiting.items, l.sets.items)
