use Rattle.std.proofs.Common.{◌≡◌, ◌++◌, take, subst}
use Rattle.std.proofs.lemmas.List.{take_all}
use Rattle.lw_first.specs.Heads.{kinds_in}
use Rattle.lw_first.specs.Sets.{AddsHeads}
use Rattle.lw_first.specs.Forms.{HeadBefore}
use Rattle.lw_first.proofs.Adding.{head_next}
use Rattle.lw_first.proofs.first.First.followed.Goals as goal

pub loop-behind-preserved : goal.loop-behind-preserved
loop-behind-preserved c =
    head_next (λ a h. h ≡ take c.args.self.now.k (kinds_in c.args.head ++ a)) c.args.after.now c.loop-behind.behind-index _ c.loop-behind-test.true c.args.into.now c.loop-behind.into
    c.insert.new.self c.loop-behind.invariant (subst (λ ks. AddsHeads (λ h. h ≡ ks) c.loop-behind.into c.insert.new.self) c.followed_by.ensures c.in_ok-insert.ensures.adds)

pub returns : goal.returns
returns c = subst (λ heads. AddsHeads (HeadBefore c.args.self.now.k (kinds_in c.args.head) heads) c.args.into.now c.loop-behind.into)
    (take_all c.loop-behind.behind-index c.args.after.now c.loop-behind-test.false) c.loop-behind.invariant
