use Rattle.std.proofs.Common.{◌≡◌, ◌+◌, if◌then◌else◌, length, ap, ◌∙◌, subst}
use Rattle.std.proofs.lemmas.List.{take_all}
use Rattle.lw_first.specs.Sets.{AddsHeads, IsAmongHeads}
use Rattle.lw_first.proofs.HeadLemmas.{adds_next}
use Rattle.lw_first.proofs.NewHeads.{new_more, new_same}
use Rattle.lw_first.proofs.fresh.put_new.Goals as goal
use Rattle.lw_first.proofs.fresh.put_new.Goals.{then-branch+in_ok-push, else-branch}

pub loop-head-preserved : goal.loop-head-preserved
loop-head-preserved c = record {
  adds = adds_next c.args.into.now c.loop-head.into c.insert.new.self c.args.heads.now c.loop-head.head-index _ c.loop-head-test.true c.loop-head.invariant.adds
      c.in_ok-insert.ensures.adds;
  new = elim c.if-branch.branch [
    | then-branch+in_ok-push w ↦
        new_more c.args.into.now c.loop-head.into c.insert.new.self c.loop-head.fresh.items _ c.loop-head.invariant.new c.in_ok-insert.ensures.adds c.if-branch.fresh.items
        (ap (λ v. v.items) w.fresh-is ∙ w.in_ok-push.ensures.items)
        (subst (λ is_new. length c.insert.new.self ≡ length c.loop-head.into + (if is_new then 1 else 0)) w.if-branch.true c.in_ok-insert.ensures.count)
    | else-branch w ↦
        new_same c.args.into.now c.loop-head.into c.insert.new.self c.loop-head.fresh.items _ c.loop-head.invariant.new c.in_ok-insert.ensures.adds c.if-branch.fresh.items
        (ap (λ v. v.items) w.fresh-is) (c.in_ok-insert.ensures.same w.if-branch.false)
  ];
}

pub returns-clause-adds : goal.returns-clause-adds
returns-clause-adds c = subst (λ heads. AddsHeads (IsAmongHeads heads) c.args.into.now c.loop-head.into)
    (take_all c.loop-head.head-index c.args.heads.now c.loop-head-test.false) c.loop-head.invariant.adds
