use Rattle.std.proofs.Common.{take}
use Rattle.lw_flow.specs.Sets.{IsLightest}
use Rattle.lw_flow.proofs.sets.lightest.Given as goal

abbrev pub invariant-loop-effect : goal.invariant-loop-effect
invariant-loop-effect l = IsLightest (take l.effect-index l.effects) l.least
