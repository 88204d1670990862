use Rattle.std.proofs.Common.{ap, sym, ◌∙◌}
use Rattle.lw_builder.specs.Finishing.{adopts}
use Rattle.lw_builder.specs.Owners.{claims}
use Rattle.lw_builder.proofs.Adopting.{adopts-more}
use Rattle.lw_builder.proofs.Claiming.{claims-more}
use Rattle.lw_builder.proofs.Giving.{next_within, next_claimable, left_more, kept_more}
use Rattle.lw_builder.proofs.finishing.give.Goals as goal

pub settle-requires-clause-nodes : goal.settle-requires-clause-nodes
settle-requires-clause-nodes c =
    next_within c.args.own c.loop-prop.yielded _ _ _ _ _ c.args.finished.now.items c.loop-prop.finished.items
    (c.loop-prop.invariant.left ∙ c.into_iter-prop-iterator.ensures.into_iter_gives.0) c.in-Some.ensures.steps.0 c.requires.nodes c.loop-prop.invariant.finished

pub settle-requires-clause-refs : goal.settle-requires-clause-refs
settle-requires-clause-refs c =
    next_claimable c.args.own c.loop-prop.yielded _ _ _ _ _ c.args.refs.now.items c.loop-prop.refs.items
    (c.loop-prop.invariant.left ∙ c.into_iter-prop-iterator.ensures.into_iter_gives.0) c.in-Some.ensures.steps.0 c.requires.refs c.loop-prop.invariant.refs

pub loop-prop-preserved : goal.loop-prop-preserved
loop-prop-preserved c = record {
  left = left_more _ _ _ _ _ c.loop-prop.invariant.left c.in-Some.ensures.steps.0;
  finished = c.settle.ensures.finished ∙ ap (λ l. adopts c.args.own c.in-Some.prop c.in-Some.value l) c.loop-prop.invariant.finished
      ∙ sym (adopts-more c.args.own c.loop-prop.yielded c.in-Some.prop c.in-Some.value _);
  refs = c.settle.ensures.refs ∙ ap (λ l. claims c.args.own c.in-Some.value l) c.loop-prop.invariant.refs
      ∙ sym (claims-more c.args.own c.loop-prop.yielded c.in-Some.prop c.in-Some.value _);
  kept = kept_more _ _ _ _ _ _ _ c.loop-prop.invariant.kept c.in_ok-push.ensures.items;
}
