use Rattle.std.proofs.Common.{subst}
use Rattle.std.proofs.lemmas.List.{take_all}
use Rattle.lw_first.specs.Sets.{AddsHeads}
use Rattle.lw_first.specs.Forms.{FollowedBefore, HeadBefore}
use Rattle.lw_first.proofs.Adding.{head_next}
use Rattle.lw_first.proofs.first.First.all_followed.Goals as goal

pub loop-head-preserved : goal.loop-head-preserved
loop-head-preserved c =
    head_next (λ front. HeadBefore c.args.self.now.k front c.args.after.now) c.args.heads.now c.loop-head.head-index _ c.loop-head-test.true c.args.into.now c.loop-head.into
    c.followed.new.into c.loop-head.invariant c.in_ok-followed.ensures

pub returns : goal.returns
returns c = subst (λ heads. AddsHeads (FollowedBefore c.args.self.now.k heads c.args.after.now) c.args.into.now c.loop-head.into)
    (take_all c.loop-head.head-index c.args.heads.now c.loop-head-test.false) c.loop-head.invariant
