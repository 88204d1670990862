use Rattle.std.proofs.lemmas.Result.{IfOk-weaker}
use Rattle.lw_flow.proofs.ArrivalLemmas.{walked}
use Rattle.lw_flow.proofs.rows.row.Goals as goal

pub returns : goal.returns
returns c =
    IfOk-weaker c.entries.result _ _ (λ list are. record {
      visits = c.as_slice.result.now;
      tells = walked c.args.source.now.grammar.now c.in_ok-walk.ensures c.new-visits.ensures.items c.as_slice.ensures.value;
      are = are;
    }) c.entries.ensures
