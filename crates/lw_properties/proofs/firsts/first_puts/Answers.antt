use Rattle.std.proofs.Common.{map, take, sym, ap, subst, arith}
use Rattle.std.proofs.lemmas.List.{take_all}
use Rattle.lw_properties.specs.Mixing.{putting_of, AreFirstPuts}
use Rattle.lw_properties.proofs.Found.{read_more}
use Rattle.lw_properties.proofs.firsts.first_puts.Goals as goal

pub loop-put-preserved : goal.loop-put-preserved
loop-put-preserved c =
    let i = c.loop-put.put-index in
    let items = c.args.puts.now in
    subst (λ xs. AreFirstPuts xs c.put_first.new.firsts.entries) (sym (read_more putting_of items i c.put-item.result c.loop-put-test.true c.put-item.is))
    (c.in_ok-put_first.ensures (map putting_of (take i items)) c.loop-put.invariant)

pub returns : goal.returns
returns c =
    subst (λ xs. AreFirstPuts xs c.loop-put.firsts.entries) (ap (map putting_of) (take_all c.loop-put.put-index c.args.puts.now (omega arith))) c.loop-put.invariant
