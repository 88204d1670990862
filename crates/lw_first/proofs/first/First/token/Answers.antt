use Rattle.std.proofs.Common.{◌≡◌, [], ◌∷◌, take, subst}
use Rattle.std.proofs.lemmas.List.{take_all}
use Rattle.lw_first.specs.Sets.{AddsHeads}
use Rattle.lw_first.specs.Forms.{HeadBefore}
use Rattle.lw_first.proofs.Adding.{head_next}
use Rattle.lw_first.proofs.first.First.token.Goals as goal

pub loop-head-preserved : goal.loop-head-preserved
loop-head-preserved c =
    head_next (λ a h. h ≡ take c.args.self.now.k (c.args.kind.0 ∷ a)) c.args.after.now c.loop-head.head-index _ c.loop-head-test.true c.args.into.now c.loop-head.into c.insert.new.self
    c.loop-head.invariant (subst (λ ks. AddsHeads (λ h. h ≡ ks) c.loop-head.into c.insert.new.self) c.behind.ensures c.in_ok-insert.ensures.adds)

pub returns : goal.returns
returns c = subst (λ heads. AddsHeads (HeadBefore c.args.self.now.k (c.args.kind.0 ∷ []) heads) c.args.into.now c.loop-head.into)
    (take_all c.loop-head.head-index c.args.after.now c.loop-head-test.false) c.loop-head.invariant
