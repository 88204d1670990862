use Rattle.std.proofs.Common.{refl, ◌∙◌, subst}
use Rattle.std.proofs.lemmas.List.{take_all}
use Rattle.lw_lookahead.specs.Entries.{of_ways}
use Rattle.lw_lookahead.specs.Gathered.{AreGatheredWays}
use Rattle.lw_lookahead.proofs.GatherSteps.{gathered_next, gathered_none}
use Rattle.lw_lookahead.proofs.entries.Entries.of.Goals as goal

pub loop-place-init : goal.loop-place-init
loop-place-init c = gathered_none _ c.new.ensures.empty refl

pub loop-place-preserved : goal.loop-place-preserved
loop-place-preserved c =
    gathered_next c.args.ways.now c.loop-place.entries c.put_way.new.self c.loop-place.place _ _ c.loop-place-test.true
    (c.as_slice.ensures ∙ c.index-ways-place.is) c.loop-place.invariant c.in_ok-put_way.ensures

pub returns : goal.returns
returns c =
    subst (λ ways. AreGatheredWays (of_ways 1 ways) c.loop-place.entries) (take_all c.loop-place.place c.args.ways.now c.loop-place-test.false)
    c.loop-place.invariant
