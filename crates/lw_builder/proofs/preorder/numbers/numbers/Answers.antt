use Rattle.std.proofs.Common.{ℕ, ◌≡◌, ◌-◌, ◌+◌, arith, refl, subst}
use Rattle.lw_builder.specs.Finishing.{AreNumberedFrom}
use Rattle.lw_builder.proofs.Numbering.{child_more}
use Rattle.lw_builder.proofs.preorder.numbers.numbers.Goals as goal

pub loop-place-preserved : goal.loop-place-preserved
loop-place-preserved c =
    let e : c.loop-place.place ≡ (c.loop-place.place - 1) + 1 = omega arith in
    let P : ℕ → Type 0 = λ k. AreNumberedFrom c.args.finished.now c.loop-place.numbers.items k in
    child_more _ _ _ _ _ _ _ _ c.requires.nested c.in-Some.is c.index.ensures (omega arith) refl (subst P e c.loop-place.invariant)
