use Rattle.std.proofs.Common.{◌≡◌, length, subst, arith}
use Rattle.lw_types.proofs.Adding.{AreEmpty, empty_gathers}
use Rattle.lw_types.proofs.property_table.seeing.gatherings.Goals as goal

pub returns : goal.returns
returns c wanted is =
    let end : c.loop-number._number ≡ length wanted = omega (arith, c.loop-number-test.false, c.loop-number.auto, is) in
    empty_gathers wanted c.loop-number.list.items (subst (λ n. AreEmpty n c.loop-number.list.items) end c.loop-number.invariant)
