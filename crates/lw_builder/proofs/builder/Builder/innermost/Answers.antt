use Rattle.std.proofs.Common.{◌≡◌, ◌++◌, ◌∷◌, [], List, subst, ◌∙◌}
use Rattle.std.specs.Prelude.{MatchOption}
use Rattle.lw_builder.specs.declared.open.Open.{Open}
use Rattle.lw_builder.proofs.ClosingSteps.{last_told}
use Rattle.lw_builder.proofs.builder.Builder.innermost.Goals as goal

pub returns : goal.returns
returns c =
    subst (λ (items : List Open). MatchOption c.copied.result (items ≡ []) (λ one. (below : List Open) × (items ≡ below ++ one ∷ []))) c.deref.ensures.value
    (last_told c.deref.result.now c.copied.result (c.copied.ensures ∙ c.last.ensures.value))
