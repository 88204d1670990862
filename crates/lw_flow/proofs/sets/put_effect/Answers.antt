use Rattle.std.proofs.Common.{◌↔◌, ◌⊎◌, ◌≡◌, List, Contains, sym, subst}
use Rattle.lw_flow.specs.declared.effect.Effect.{Effect}
use Rattle.lw_flow.proofs.SetLemmas.{effect_exact, in_insert_key}
use Rattle.lw_flow.proofs.sets.put_effect.Goals as goal

pub returns : goal.returns
returns c y =
    subst (λ (keys : List Effect). Contains keys y ↔ (Contains c.args.set.now.keys y ⊎ (y ≡ c.args.effect))) (sym c.in_ok-insert.ensures.keys)
    (in_insert_key effect_exact c.args.set.now.keys c.args.effect y)
