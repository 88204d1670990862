use Rattle.std.proofs.Common.{arith}
use Rattle.lw_types.proofs.SetLemmas.{widens_none}
use Rattle.lw_types.proofs.sets.put_if_there.Goals as goal

pub returns-then-high-len : goal.returns-then-high-len
returns-then-high-len c = widens_none (λ h inside same. omega (arith, inside, same, c.len.ensures, c.if-high-len.true))
