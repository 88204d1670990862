use Rattle.std.proofs.Common.{◌≡◌, length-append, arith, ℕ, List}
use Rattle.lw_matchers.proofs.StartingLemmas.{one_more_byte}
use Rattle.lw_matchers.proofs.starting.by_first_byte.Goals as goal

pub loop-byte-preserved : goal.loop-byte-preserved
loop-byte-preserved c =
    let inv = c.loop-byte.invariant in
    rw c.in_ok-push.ensures.items (record {
      each_byte = omega (arith, inv.each_byte, length-append {A = List ℕ});
      places = one_more_byte c.args.keywords.now c.loop-byte.table.items c.loop-byte.byte c.in_ok-starting_with.field-0 inv.each_byte inv.places
          c.in_ok-starting_with.ensures;
    })

pub returns : goal.returns
returns c =
    let inv = c.loop-byte.invariant in
    let all : c.loop-byte.byte ≡ 256 = omega (arith, c.loop-byte-test.false) in
    record {
      each_byte = omega (arith, inv.each_byte);
      places = λ byte d below. inv.places byte d (omega (arith, below, all));
    }
