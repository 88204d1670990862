use Rattle.std.proofs.Common.{◌≡◌, ◌+◌, length, sym, ap, subst, arith}
use Rattle.lw_numbers.specs.Numbering.{type_names}
use Rattle.lw_types.proofs.TypeFlags.{FreeBefore, free_more, free_all}
use Rattle.lw_types.proofs.property_table.free.free_types.Goals as goal

pub loop-number-preserved : goal.loop-number-preserved
loop-number-preserved c =
    let g = c.args.g.now in
    subst (FreeBefore g (c.loop-number.number + 1)) (sym c.in_ok-push.ensures.items)
    (free_more g c.loop-number.number c.loop-number.free.items c.is_free.result c.type_name-name.result.now c.loop-number.invariant (c.type_name-name.ensures g c.requires.numbers) c.is_free.ensures)

pub returns : goal.returns
returns c =
    let g = c.args.g.now in
    let end : c.loop-number.number ≡ length (type_names g) =
    omega (arith, c.loop-number-test.false, c.loop-number.auto, c.type_count-number-end.ensures.count, ap length c.requires.numbers.types) in
    free_all g c.loop-number.free.items (subst (λ n. FreeBefore g n c.loop-number.free.items) end c.loop-number.invariant)
