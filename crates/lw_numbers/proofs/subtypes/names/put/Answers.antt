use Rattle.std.proofs.Common.{sym, ◌∙◌}
use Rattle.lw_numbers.proofs.Speaking.{extends_there}
use Rattle.lw_numbers.proofs.subtypes.names.put.Goals as goal

pub returns-else-not-contains : goal.returns-else-not-contains
returns-else-not-contains c = extends_there c.args.name.now c.args.names.now.keys (sym c.contains.ensures ∙ c.if-not-contains.false)
