use Rattle.std.proofs.Common.{◌∙◌}
use Rattle.lw_lanes.proofs.Texts.{characters-text}
use Rattle.lw_lanes.proofs.counts.char_count.Goals as goal

pub returns-clause-of_text : goal.returns-clause-of_text
returns-clause-of_text c is = c.total.ensures ∙ characters-text c.args.bytes.now is
