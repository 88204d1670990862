use Rattle.std.proofs.Common.{sym, ap, ◌∙◌}
use Rattle.std.specs.FinMap.{len}
use Rattle.lw_docs.proofs.View.{held_len}
use Rattle.lw_docs.proofs.docs.Docs.len.Goals as goal

pub returns-clause-len : goal.returns-clause-len
returns-clause-len c = c.len.ensures.len ∙ sym (held_len c.self.inside.slots.items c.self.inside.numbers c.self.invariant.names.ordered) ∙ ap len c.self.view_is
