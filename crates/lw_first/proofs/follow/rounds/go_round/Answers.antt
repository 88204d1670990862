use Rattle.std.proofs.Common.{length, sym, subst}
use Rattle.lw_first.specs.FollowRounds.{AreWalked, WentOn}
use Rattle.lw_first.proofs.follow.rounds.go_round.Goals as goal

pub rounds-preserved : goal.rounds-preserved
rounds-preserved c kinds are at_first = c.in_ok-round.ensures.under_way kinds are (c.rounds.invariant kinds are at_first)

pub returns : goal.returns
returns c kinds are at_first =
    let rules = length c.args.first.now.lexicon.g.now.rules in
    let walked = c.round.new.walked in
    let sets = c.round.new.sets in
    let ended = subst (WentOn (AreWalked rules) c.rounds.walked c.rounds.sets walked sets) c.if-branch.false c.in_ok-round.ensures.went_on in (
      c.in_ok-round.ensures.under_way kinds are (c.rounds.invariant kinds are at_first),
      subst (λ now. AreWalked rules walked now) (sym ended.1) (subst (λ now. AreWalked rules now c.rounds.sets) (sym ended.0) ended.2),
    )
