use Rattle.std.proofs.Common.{length, ap, arith}
use Rattle.lw_numbers.specs.Numbering.{type_names}
use Rattle.lw_numbers.proofs.Speaking.{numbered_more, all_numbered}
use Rattle.lw_numbers.proofs.subtypes.names.numbered.Goals as goal

pub loop-number-preserved : goal.loop-number-preserved
loop-number-preserved c = λ g are.
    numbered_more (type_names g) c.loop-number.names.set.keys c.insert.new.self.keys c.loop-number.number c.type_name.result.now c.in_ok-copy.field-0
    (c.loop-number.invariant g are) (c.type_name.ensures g are) c.in_ok-copy.ensures c.in_ok-insert.ensures.keys

pub returns : goal.returns
returns c = λ g are.
    all_numbered g c.loop-number.number c.loop-number.names.set.keys
    (omega (arith, c.loop-number-test.false, c.type_count-number-end.ensures.count, ap length are.types)) (c.loop-number.invariant g are)
