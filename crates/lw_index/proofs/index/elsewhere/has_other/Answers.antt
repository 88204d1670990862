use Rattle.lw_index.specs.Least.{IsAmongWanted}
use Rattle.std.proofs.Common.{Some}
use Rattle.lw_index.proofs.OthersLemmas.{found_or_not}
use Rattle.lw_index.proofs.index.elsewhere.has_other.Goals as goal

pub returns : goal.returns
returns c =
    found_or_not (IsAmongWanted c.args.exporters.now c.args.types.now (Some c.args.except)) c.first_wanted.result c.is_some.result c.is_some.ensures c.first_wanted.ensures
