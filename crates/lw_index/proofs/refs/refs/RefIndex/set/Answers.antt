use Rattle.std.proofs.Common.{sym, ap, ◌∙◌}
use Rattle.std.specs.FinMap as map
use Rattle.lw_index.proofs.RefsView.{led_insert}
use Rattle.lw_index.proofs.Holding.{from_ok, paired_kept, paired_same, paired_with}
use Rattle.lw_index.proofs.refs.refs.RefIndex.set.Goals as goal

pub sweep-requires : goal.sweep-requires
sweep-requires c = paired_kept c.self.inside.documents c.self.inside.pairs c.enter.new.pairs c.enter.ensures.kept c.self.invariant

pub sweep-requires-in-Err : goal.sweep-requires-in-Err
sweep-requires-in-Err c = paired_same c.self.inside.documents c.insert.new.self c.enter.new.pairs c.in-Err.ensures.err
    (paired_kept c.self.inside.documents c.self.inside.pairs c.enter.new.pairs c.enter.ensures.kept c.self.invariant)

pub sweep-requires-in-Ok : goal.sweep-requires-in-Ok
sweep-requires-in-Ok c = paired_with c.self.inside.documents c.insert.new.self c.args.doc.0 c.enter.new.pairs c.in_ok-leads.leads c.in-Ok.ensures.updates.0
    (paired_kept c.self.inside.documents c.self.inside.pairs c.enter.new.pairs c.enter.ensures.kept c.self.invariant)
    (from_ok c.enter.result (sym c.is_err.ensures.value ∙ c.if-is_err.false) c.enter.ensures.entered)

pub returns-in-Ok-clause-ok : goal.returns-in-Ok-clause-ok
returns-in-Ok-clause-ok c = led_insert c.self.inside.documents c.insert.new.self c.args.doc.0 c.in_ok-leads.leads c.in-Ok.ensures.updates.0 ∙ ap (λ v. map.insert v c.args.doc.0 c.in_ok-leads.leads) c.self.view_is
    ∙ ap (map.insert c.args.self.now c.args.doc.0) c.in_ok-leads.ensures
