use Rattle.std.proofs.Common.{◌≡◌, ◌≤◌, take}
use Rattle.lw_flow.specs.declared.effect.Mark.TheVariants.{Done}
use Rattle.lw_flow.specs.Effects.{weight}
use Rattle.lw_flow.specs.Sets.{AddsFrom}
use Rattle.lw_flow.proofs.sets.put_done.Given as goal

abbrev pub invariant-loop-effect : goal.invariant-loop-effect
invariant-loop-effect l = AddsFrom (λ y m. (m ≡ Done y) × (l.least ≤ weight y)) l.initial.set.keys (take l.effect-index l.effects) l.set.keys
