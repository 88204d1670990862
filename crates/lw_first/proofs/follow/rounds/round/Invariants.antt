use Rattle.lw_grammar.specs.Kinds.{Kinds, AreKinds}
use Rattle.lw_first.specs.FollowRounds.{AreWalked, IsUnderWay, WentOn}
use Rattle.lw_first.proofs.follow.rounds.round.Given as goal

abbrev pub invariant-loop-rule : goal.invariant-loop-rule
invariant-loop-rule l = record {
  under_way : (kinds : Kinds) → AreKinds l.first.lexicon.g.now kinds →
      IsUnderWay l.first.lexicon.g.now kinds l.first.k l.first.heads.now l.fn.walked l.fn.sets →
      IsUnderWay l.first.lexicon.g.now kinds l.first.k l.first.heads.now l.walked l.sets;
  went_on : WentOn (AreWalked l.rule) l.fn.walked l.fn.sets l.walked l.sets l.went_on;
}
