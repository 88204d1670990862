use Rattle.lw_grammar.specs.Kinds.{Kinds, AreKinds}
use Rattle.lw_first.specs.FollowRounds.{IsUnderWay, heads_left}
use Rattle.lw_first.proofs.follow.rounds.go_round.Given as goal

abbrev pub invariant-rounds : goal.invariant-rounds
invariant-rounds l = (kinds : Kinds) → AreKinds l.first.lexicon.g.now kinds →
    IsUnderWay l.first.lexicon.g.now kinds l.first.k l.first.heads.now l.fn.walked l.fn.sets →
    IsUnderWay l.first.lexicon.g.now kinds l.first.k l.first.heads.now l.walked l.sets

abbrev pub decreases-rounds : goal.decreases-rounds
decreases-rounds l = heads_left l.walked
