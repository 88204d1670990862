use Rattle.std.proofs.Common.{◌∙◌}
use Rattle.std.proofs.lemmas.Option.{slice_get_within}
use Rattle.lw_flow.proofs.ArrivalLemmas.{starts_known}
use Rattle.lw_flow.proofs.arrivals.arrivals.Goals as goal

pub rounds-init : goal.rounds-init
rounds-init c = record {
  sized = c.in_ok-marks.ensures.sized;
  known = λ w m there. starts_known c.args.source.now.grammar.now w m ((c.in_ok-marks.ensures.exact w m).0 there);
  starts = λ w m start. (c.in_ok-marks.ensures.exact w m).1 start;
}

pub returns-then-not-branch-clause-exact : goal.returns-then-not-branch-clause-exact
returns-then-not-branch-clause-exact c =
    let spreads = c.in_ok-spread_all.ensures.spreads in
    record {
      known = spreads.known c.requires.sound c.rounds.invariant.known;
      starts = λ w m start. spreads.kept w m (c.rounds.invariant.starts w m start);
      passed = λ w rule l f fragment x m k _ at may is there moves.
          spreads.passed c.if-not-branch.true w rule l f fragment x m k (slice_get_within c.args.source.now.grammar.now.rules w rule at) at may is there moves;
    }

pub rounds-preserved : goal.rounds-preserved
rounds-preserved c =
    let spreads = c.in_ok-spread_all.ensures.spreads in
    record {
      sized = c.in_ok-spread_all.ensures.length ∙ c.rounds.invariant.sized;
      known = spreads.known c.requires.sound c.rounds.invariant.known;
      starts = λ w m start. spreads.kept w m (c.rounds.invariant.starts w m start);
    }

pub rounds-smaller : goal.rounds-smaller
rounds-smaller c = c.in_ok-spread_all.ensures.room.less c.if-not-branch.false
