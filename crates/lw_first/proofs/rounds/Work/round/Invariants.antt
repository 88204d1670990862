use Rattle.std.proofs.Common.{◌≡◌, ◌≤◌, false, length}
use Rattle.lw_grammar.specs.Kinds.{Kinds, AreKinds}
use Rattle.lw_first.specs.Rounds.{NoneWaits, SettlesMore, StaysTrue, WorksOrRests}
use Rattle.lw_first.proofs.rounds.Work.round.Given as goal

abbrev pub invariant-rules : goal.invariant-rules
invariant-rules l = record {
  within : l.left ≤ length l.sets;
  stays : (kinds : Kinds) → AreKinds l.self.lexicon.g.now kinds → StaysTrue l.self.lexicon.g.now kinds l.self.k l.fn.sets l.sets;
  settles : (kinds : Kinds) → AreKinds l.self.lexicon.g.now kinds → SettlesMore l.self.lexicon.g.now kinds l.self.k (l.fn.waiting, l.fn.sets) (l.waiting, l.sets);
  works : WorksOrRests (l.fn.waiting, l.fn.sets) (l.waiting, l.sets) l.worked;
  rests : l.worked ≡ false → NoneWaits l.left l.waiting;
}

abbrev pub decreases-rules : goal.decreases-rules
decreases-rules l = l.left
