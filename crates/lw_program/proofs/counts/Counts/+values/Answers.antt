use Rattle.std.proofs.Common.{[], sym, ap, ◌∙◌, subst}
use Rattle.std.proofs.lemmas.Result.{on_ok_weaker}
use Rattle.lw_grammar.specs.declared.rule.Op.TheVariants.{One}
use Rattle.lw_grammar.specs.declared.rule.Value0.{out-Value0}
use Rattle.lw_grammar.specs.declared.rule.Value0.TheViews.{outs-Choice}
use Rattle.lw_grammar.specs.declared.rule.Value0.TheOpen as value
use Rattle.lw_look.specs.Sites.{◌▸◌}
use Rattle.lw_program.specs.Counting.{AreSitesCounted}
use Rattle.lw_program.specs.Filled.{value_want, wants_from, all_sites}
use Rattle.lw_program.proofs.Counted.{counted_both, counted_point}
use Rattle.lw_program.proofs.Parts.{value_sites_of, counted_next}
use Rattle.lw_program.proofs.counts.Counts.+values.Goals as goal

pub pass_value-returns-in_ok-next_point-in-Choice : goal.pass_value-returns-in_ok-next_point-in-Choice
pass_value-returns-in_ok-next_point-in-Choice t c s =
    let at = c.in-Choice in
    on_ok_weaker c.pass_values.result (λ rest.
    subst (λ sites. AreSitesCounted sites c.args.self.now c.pass_values.new.self)
    (sym (value_sites_of [] One s c.args.value.now (value.Choice at.values at.field-1) (ap out-Value0 at.is ∙ outs-Choice at.values at.field-1)))
    (counted_both (counted_point s c.args.self.now c.next_point.new.self c.in_ok-next_point-in-Choice.ensures.1)
    (subst (λ values. AreSitesCounted (all_sites (wants_from (value_want [] One) s 0 values)) c.next_point.new.self c.pass_values.new.self) c.as_slice.ensures rest)))
    (c.pass_values.ensures [] One s)

pub pass_values-loop-value-preserved : goal.pass_values-loop-value-preserved
pass_values-loop-value-preserved t c p op s =
    counted_next (value_want p op) s c.args.values.now c.loop-value.value-index c.value-item.result c.loop-value-test.true c.value-item.is
    (c.loop-value.invariant p op s) (c.in_ok-pass_value.ensures (s ▸ c.loop-value.value-index))
