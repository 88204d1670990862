use Rattle.std.proofs.Common.{◌+◌, ◌<◌, length, arith}
use Rattle.std.proofs.lemmas.Result.{on_ok_weaker}
use Rattle.lw_faults.specs.Entries.{action_count}
use Rattle.lw_gramcheck.proofs.EntryLemmas.{found_many}
use Rattle.lw_gramcheck.proofs.parts.entries.find_too_many_rules.Goals as goal

pub returns : goal.returns
returns c =
    let g = c.args.g.now in
    let so : 1024 < length g.rules + length g.terminals + action_count g =
    let actions = rw c.as_slice.ensures at c.in_ok-actions.ensures in omega (arith, actions) in
    on_ok_weaker c.add.result (found_many c.args.g.now so) c.add.ensures
