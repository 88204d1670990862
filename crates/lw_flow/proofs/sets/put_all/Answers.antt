-- Where the set is no longer than before, nothing was put into it.
use Rattle.std.proofs.Common.{take, length, arith, ap, ◌∙◌}
use Rattle.std.proofs.lemmas.Bool.{ltb-false}
use Rattle.lw_flow.proofs.SetLemmas.{all_longer}
use Rattle.lw_flow.proofs.sets.put_all.Goals as goal

pub returns-clause-none : goal.returns-clause-none
returns-clause-none g c not =
    let put = c.loop-item.invariant in
    let long = ap length put in
    let most = ltb-false c.len-before.result c.len.result not in
    put
    ∙ (all_longer g.T.PartialEq.eq c.args.set.now.keys (take c.loop-item.item-index c.args.items.now)).1
    (omega (arith, most, c.len-before.ensures.len, c.len.ensures.len, long))
