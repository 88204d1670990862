use Rattle.std.proofs.Common.{ℕ, get_or, length, ◌<◌, arith}
use Rattle.lw_base.proofs.Lists.{get_or_any}
use Rattle.lw_types.proofs.SetLemmas.{widens_none, widens_more}
use Rattle.lw_types.proofs.sets.put_above.Goals as goal

pub loop-high-init : goal.loop-high-init
loop-high-init c = widens_none (λ h inside (k, below, is). omega (arith, below))

pub loop-high-preserved : goal.loop-high-preserved
loop-high-preserved c =
    let xs = c.args.above.now in
    let i = c.loop-high.high-index in
    let high : ℕ = get_or xs i 0 in
    let inside : i < length xs = omega arith in
    widens_more xs i high inside (get_or_any xs i 0 high inside) c.loop-high.invariant c.in_ok-put_if_there.ensures
