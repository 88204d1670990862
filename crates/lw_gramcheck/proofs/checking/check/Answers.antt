use Rattle.std.proofs.Common.{Contains}
use Rattle.std.proofs.lemmas.Result.{IfOk-weaker}
use Rattle.lw_faults.specs.Faults.{AreFaults, AreCheckFaults}
use Rattle.lw_gramcheck.proofs.CheckPhase.{all_check_faults}
use Rattle.lw_gramcheck.proofs.checking.check.Goals as goal

pub returns : goal.returns
returns c =
    let g = c.args.g.now in
    IfOk-weaker c.into_list.result (AreFaults (Contains c.find_where_calls_end.new.found)) (AreCheckFaults g)
    (λ list listed.
    all_check_faults g c.new-found.ensures c.in_ok-find_circular_calls.ensures c.is_empty-has_no_circle.ensures c.in_ok-find_plain_faults.ensures
    c.in_ok-find_where_calls_end.ensures listed) c.into_list.ensures
