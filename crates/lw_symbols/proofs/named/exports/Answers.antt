use Rattle.std.proofs.Common.{ap, ◌∙◌}
use Rattle.lw_symbols.proofs.Filtered.{numbers}
use Rattle.lw_symbols.proofs.Table.{exported}
use Rattle.lw_symbols.proofs.named.exports.Goals as goal

pub returns : goal.returns
returns c = ap numbers c.in_ok-put_named.ensures ∙ exported c.args.tree.now c.in_ok-found.found.items c.in_ok-found.ensures
