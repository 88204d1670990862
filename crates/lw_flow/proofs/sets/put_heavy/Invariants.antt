use Rattle.std.proofs.Common.{◌≡◌, ◌≤◌, take}
use Rattle.lw_flow.specs.Effects.{weight}
use Rattle.lw_flow.specs.Sets.{AddsFrom}
use Rattle.lw_flow.proofs.sets.put_heavy.Given as goal

abbrev pub invariant-loop-effect : goal.invariant-loop-effect
invariant-loop-effect l = AddsFrom (λ x y. (y ≡ x) × (l.least ≤ weight x)) l.initial.set.keys (take l.effect-index l.effects) l.set.keys
