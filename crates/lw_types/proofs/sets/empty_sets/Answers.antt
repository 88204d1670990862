use Rattle.std.proofs.Common.{◌+◌, ◌++◌, ◌∷◌, [], sym, ap, ◌∙◌, subst}
use Rattle.lw_types.specs.Sets.{AreEmptySets}
use Rattle.lw_types.proofs.SetLemmas.{one_empty_more}
use Rattle.lw_types.proofs.sets.empty_sets.Goals as goal

pub loop-set-preserved : goal.loop-set-preserved
loop-set-preserved c =
    subst (AreEmptySets (c.loop-set._set + 1)) (sym (c.in_ok-push.ensures.items ∙ ap (λ s. c.loop-set.sets.items ++ s ∷ []) c.new.ensures))
    (one_empty_more c.loop-set._set c.loop-set.sets.items c.loop-set.invariant)
