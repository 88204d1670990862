use Rattle.std.proofs.Common.{◌≡◌, ◌+◌, ◌<◌, ◌⊎◌, inl, inr, Bool, true, false, if◌then◌else◌, List, length, refl, ◌∙◌, subst, arith}
use Rattle.std.proofs.lemmas.List.{take_all}
use Rattle.lw_first.specs.declared.heads.head.Head.{Head}
use Rattle.lw_first.specs.Sets.{AddsHeads, IsAmongHeads}
use Rattle.lw_first.proofs.HeadLemmas.{adds_next}
use Rattle.lw_first.proofs.heads.head_set.HeadSet.insert_all.Goals as goal

grown : (start old new : List Head) (is_new : Bool) → (old ≡ start) ⊎ (length start < length old) → length new ≡ length old + (if is_new then 1 else 0) →
    (is_new ≡ false → new ≡ old) → (new ≡ start) ⊎ (length start < length new)
grown start old new is_new (inr more) count same = inr (omega arith)
grown start old new true (inl is) count same = inr (subst (λ xs. length xs < length new) is (omega arith))
grown start old new false (inl is) count same = inl (same refl ∙ is)

pub loop-head-preserved : goal.loop-head-preserved
loop-head-preserved c = record {
  adds = adds_next c.args.self.now c.loop-head.self c.insert.new.self c.args.heads.now c.loop-head.head-index _ c.loop-head-test.true c.loop-head.invariant.adds
      c.in_ok-insert.ensures.adds;
  grows = grown c.args.self.now c.loop-head.self c.insert.new.self c.in_ok-insert.field-0 c.loop-head.invariant.grows c.in_ok-insert.ensures.count
      c.in_ok-insert.ensures.same;
}

pub returns-clause-adds : goal.returns-clause-adds
returns-clause-adds c =
    subst (λ heads. AddsHeads (IsAmongHeads heads) c.args.self.now c.loop-head.self) (take_all c.loop-head.head-index c.args.heads.now c.loop-head-test.false)
    c.loop-head.invariant.adds
