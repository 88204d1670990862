use Rattle.std.proofs.Common.{rules}
use Rattle.lw_faults.specs.BadCalls.{IsInOrder}
use Rattle.lw_faults.specs.Faults.{fault}
use Rattle.lw_faults.proofs.Joining.{Finds-where}
use Rattle.lw_gramcheck.proofs.parts.bad_calls.find_bad_range.Goals as goal

pub returns : goal.returns
returns c =
    let range = c.args.range.now in
    let not : ¬ IsInOrder range.first.now range.last.now = search rules in
    Finds-where (¬ IsInOrder range.first.now range.last.now) (fault 21 c.args.terminal.now.file range.span c.args.terminal.now.name) not c.in_ok-add.ensures
