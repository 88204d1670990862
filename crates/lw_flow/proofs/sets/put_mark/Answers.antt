use Rattle.std.proofs.Common.{◌↔◌, ◌⊎◌, ◌≡◌, List, Contains, sym, subst}
use Rattle.lw_flow.specs.declared.effect.Mark.{Mark}
use Rattle.lw_flow.proofs.SetLemmas.{mark_exact, in_insert_key}
use Rattle.lw_flow.proofs.sets.put_mark.Goals as goal

pub returns : goal.returns
returns c y =
    subst (λ (keys : List Mark). Contains keys y ↔ (Contains c.args.set.now.keys y ⊎ (y ≡ c.args.mark))) (sym c.in_ok-insert.ensures.keys)
    (in_insert_key mark_exact c.args.set.now.keys c.args.mark y)
