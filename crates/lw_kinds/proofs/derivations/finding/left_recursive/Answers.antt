use Rattle.std.proofs.Common.{◌↔◌, ℕ}
use Rattle.std.proofs.lemmas.Result.{IfOk-weaker}
use Rattle.lw_faults.specs.Reads.{ComesFirstTo}
use Rattle.lw_graph.specs.Walks.{HasNode, GoesRound}
use Rattle.lw_kinds.proofs.RoundRules.{comes_round}
use Rattle.lw_kinds.proofs.FindsLemmas.{both_ways}
use Rattle.lw_kinds.proofs.derivations.finding.left_recursive.Goals as goal

pub returns : goal.returns
returns c =
    let g = c.args.names.now.g.now in
    let graph = c.in_ok-leads.field-0 in
    IfOk-weaker c.circles-2.result (λ round. (r : ℕ) → HasNode round r ↔ GoesRound graph r) (λ round. (r : ℕ) → HasNode round r ↔ ComesFirstTo g r r)
    (λ round are r. both_ways (are r) (comes_round g graph c.in_ok-leads.ensures r)) c.circles-2.ensures
