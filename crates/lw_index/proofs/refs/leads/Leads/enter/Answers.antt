use Rattle.std.proofs.Common.{List, subst, sym, ◌∙◌, arith}
use Rattle.lw_index.specs.declared.parts.Answer.{Answer}
use Rattle.lw_index.specs.declared.refs.uses.Use.{Use}
use Rattle.lw_index.specs.Uses.{AreUses}
use Rattle.lw_index.specs.Pairs.{LeadsInto}
use Rattle.lw_index.proofs.Pairing.{entered_then, entered_else, unchanged_keeps, all_entered}
use Rattle.lw_index.proofs.refs.leads.Leads.enter.Goals as goal
use Rattle.lw_index.proofs.refs.leads.Leads.enter.Goals.{then-ne+in_ok-insert, else-ne}

pub loop-found-preserved : goal.loop-found-preserved
loop-found-preserved c = elim c.if-ne.branch [
  | then-ne+in_ok-insert w ↦ entered_then c.args.pairs.now c.loop-found.pairs c.args.user.0 c.as_slice-found-items.result.now c.loop-found.found-index c.loop-found.last c.loop-found.invariant _
      c.if-ne.last c.if-ne.pairs c.loop-found-test.true w.insert.new.self w.pairs-is w.last-is w.in_ok-insert.ensures.updates
  | else-ne w ↦ entered_else c.args.pairs.now c.loop-found.pairs c.args.user.0 c.as_slice-found-items.result.now c.loop-found.found-index c.loop-found.last c.loop-found.invariant _
      c.if-ne.last c.if-ne.pairs c.loop-found-test.true w.pairs-is w.last-is (sym c.ne.ensures ∙ w.if-ne.false)
]

pub returns-in_err-insert-clause-kept : goal.returns-in_err-insert-clause-kept
returns-in_err-insert-clause-kept c = λ p has. unchanged_keeps c.loop-found.pairs c.insert.new.self c.in_err-insert.ensures.err p (c.loop-found.invariant.kept p has)

pub returns-clause-entered : goal.returns-clause-entered
returns-clause-entered c = λ doc leads.
    let are : AreUses c.self.inside.answers.items c.as_slice-found-items.result.now = subst (λ (uses : List Use). AreUses c.self.inside.answers.items uses) (sym c.as_slice-found-items.ensures.value) c.self.invariant in
    all_entered c.self.inside.answers.items c.as_slice-found-items.result.now c.loop-found.pairs c.args.user.0 are (λ k d lt. c.loop-found.invariant.entered k d (omega arith)) doc
    (subst (λ (list : List Answer). LeadsInto list doc) (sym c.self.view_is) leads)
