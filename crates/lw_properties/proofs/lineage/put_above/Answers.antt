use Rattle.std.proofs.Common.{map}
use Rattle.std.proofs.lemmas.Iterator.Adapters.{YieldsList-from_rev_slice}
use Rattle.std.proofs.lemmas.Iterator.Consumers.{YieldsList-end}
use Rattle.lw_properties.proofs.Stacks.{top_first}
use Rattle.lw_properties.proofs.lineage.put_above.Goals as goal

pub returns : goal.returns
returns c =
    let above = c.args.own.now.above in
    let all = YieldsList-end (YieldsList-from_rev_slice above cc) c.loop-name.yielded _ c.loop-name.yielded_by _ _ c.in-None.is c.next.ensures.steps in
    top_first (λ n. n.now) (λ n. n.0) c.loop-name.yielded above (map (λ n. n.now) c.args.waiting.now.items) (map (λ n. n.now) c.loop-name.waiting.items) all.0
    c.loop-name.invariant
