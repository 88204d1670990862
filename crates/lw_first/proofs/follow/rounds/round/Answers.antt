use Rattle.std.proofs.Common.{◌+◌, sym, subst}
use Rattle.lw_first.specs.FollowRounds.{AreWalked, IsWalked, WentOn}
use Rattle.lw_first.proofs.UnderWay.{went_further, went_on_as_before}
use Rattle.lw_first.proofs.follow.rounds.round.Goals as goal
use Rattle.lw_first.proofs.follow.rounds.round.Goals.{then-branch, else-branch}

pub loop-rule-preserved : goal.loop-rule-preserved
loop-rule-preserved c =
    let rule = c.loop-rule.rule in
    let old_walked = c.args.walked.now in
    let old = c.args.sets.now in
    let mid_walked = c.loop-rule.walked in
    let mid = c.loop-rule.sets in
    let walked = c.go_through.new.walked in
    let new = c.go_through.new.sets in
    let was = c.loop-rule.invariant in
    let did = c.in_ok-go_through.ensures in
    record {
      under_way = λ kinds are at_first. did.under_way kinds are (was.under_way kinds are at_first);
      went_on = elim c.if-branch.branch [
        | then-branch w ↦ subst (WentOn (AreWalked (rule + 1)) old_walked old walked new) (sym w.went_on-is)
            (went_further rule old_walked mid_walked walked old mid new c.loop-rule.went_on was.went_on
            (subst (WentOn (IsWalked rule) mid_walked mid walked new) w.if-branch.true did.went_on))
        | else-branch w ↦ subst (WentOn (AreWalked (rule + 1)) old_walked old walked new) (sym w.went_on-is)
            (went_on_as_before rule old_walked mid_walked walked old mid new c.loop-rule.went_on was.went_on
            (subst (WentOn (IsWalked rule) mid_walked mid walked new) w.if-branch.false did.went_on))
      ];
    }
