use Rattle.std.proofs.Common.{◌∙◌, arith}
use Rattle.std.proofs.lemmas.Option.{slice_get_within}
use Rattle.lw_flow.proofs.fragments.fragment_effects.Goals as goal

pub rounds-init : goal.rounds-init
rounds-init c = record {
  sized = c.in_ok-table.ensures.count ∙ c.len.ensures;
  sound = λ f x there. absurd (c.in_ok-table.ensures.none f x there);
}

pub returns-then-not-branch-clause-sound : goal.returns-then-not-branch-clause-sound
returns-then-not-branch-clause-sound c =
    c.in_ok-widen_all.ensures.widens.sound (c.in_ok-widen_back.ensures.sound c.rounds.invariant.sound)

pub returns-then-not-branch-clause-closed : goal.returns-then-not-branch-clause-closed
returns-then-not-branch-clause-closed c f rule x _ at part may =
    c.in_ok-widen_all.ensures.widens.closed c.if-not-branch.true f rule x (slice_get_within c.args.source.now.grammar.now.rules f rule at) at part may

pub rounds-preserved : goal.rounds-preserved
rounds-preserved c = record {
  sized = c.in_ok-widen_all.ensures.length ∙ c.in_ok-widen_back.ensures.length ∙ c.rounds.invariant.sized;
  sound = c.in_ok-widen_all.ensures.widens.sound (c.in_ok-widen_back.ensures.sound c.rounds.invariant.sound);
}

pub rounds-smaller : goal.rounds-smaller
rounds-smaller c =
    let less = c.in_ok-widen_all.ensures.room.less c.if-not-branch.false in
    omega (arith, c.in_ok-widen_back.ensures.room, less)
