use Rattle.std.proofs.Common.{ap, ◌∙◌}
use Rattle.std.specs.FinMap as map
use Rattle.lw_index.proofs.RefsView.{led_remove}
use Rattle.lw_index.proofs.Holding.{paired_without}
use Rattle.lw_index.proofs.refs.refs.RefIndex.remove.Goals as goal

pub sweep-requires : goal.sweep-requires
sweep-requires c = paired_without c.self.inside.documents c.remove-gone.new.self c.args.doc.0 c.self.inside.pairs c.remove-gone.ensures.updates.0 c.self.invariant

pub returns : goal.returns
returns c = led_remove c.self.inside.documents c.remove-gone.new.self c.args.doc.0 c.remove-gone.ensures.updates.0 ∙ ap (λ v. map.remove v c.args.doc.0) c.self.view_is
