use Rattle.std.proofs.Common.{inl, inr}
use Rattle.std.proofs.Common.{List, Contains, subst}
use Rattle.lw_flow.specs.declared.effect.Effect.{Effect}
use Rattle.lw_flow.proofs.SetLemmas.{nothing_in}
use Rattle.lw_flow.proofs.doing.alone.Goals as goal

pub returns : goal.returns
returns c x = (
  λ within. elim ((c.in_ok-put_effect.ensures x).0 within) [
    | inl before ↦ absurd (nothing_in x (subst (λ (ys : List Effect). Contains ys x) c.new-set.ensures.empty before))
    | inr is ↦ is
  ],
  λ is. (c.in_ok-put_effect.ensures x).1 (inr is),
)
