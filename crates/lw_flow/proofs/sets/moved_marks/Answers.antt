use Rattle.lw_flow.proofs.SetLemmas.{moved_alone, moved_sets}
use Rattle.lw_flow.proofs.sets.moved_marks.Goals as goal

pub returns-in-None-lightest_done : goal.returns-in-None-lightest_done
returns-in-None-lightest_done c =
    moved_alone c.args.marks.now c.args.effects.now c.new-set.result.keys c.new-set.ensures.empty c.put_staying.new.set.keys c.in-Some.low c.in-Some.ensures
    c.in_ok-put_staying.ensures c.in-None-lightest_done.ensures

pub returns : goal.returns
returns c =
    moved_sets c.args.marks.now c.args.effects.now c.new-set.result.keys c.new-set.ensures.empty c.put_staying.new.set.keys c.in-Some.low c.in-Some.ensures
    c.in_ok-put_staying.ensures c.put_done.new.set.keys c.in-Some-lightest_done.least c.in-Some-lightest_done.ensures c.in_ok-put_done.ensures
