use Rattle.lw_flow.proofs.SetLemmas.{joined_sets}
use Rattle.lw_flow.proofs.sets.joined_effects.Goals as goal

pub returns : goal.returns
returns c =
    joined_sets c.args.first.now c.args.second.now c.new-set.result.keys c.new-set.ensures.empty c.put_heavy.new.set.keys c.put_heavy-2.new.set.keys c.in-Some.low
    c.in-Some-lightest.least c.in-Some.ensures c.in-Some-lightest.ensures c.in_ok-put_heavy.ensures c.in_ok-put_heavy-2.ensures
