use Rattle.std.proofs.Common.{Contains, subst}
use Rattle.lw_first.specs.Rounds.{GrewOrSame}
use Rattle.lw_first.proofs.RoundSteps.{settles_same, settles_woken, stays_true}
use Rattle.lw_first.proofs.rounds.Work.visit.Goals as goal

pub returns-then-not-branch-clause-settles : goal.returns-then-not-branch-clause-settles
returns-then-not-branch-clause-settles c = λ kinds are.
    let work = c.args.self.now in
    let sets = c.args.sets.now in
    let next = c.grow.new.sets in
    settles_same work.lexicon.g.now kinds work.k c.args.waiting.now sets next c.args.number (c.in_ok-grow.ensures.grows kinds are)
    (subst (GrewOrSame sets next) c.if-not-branch.true c.in_ok-grow.ensures.grew)

pub returns-clause-no_others : goal.returns-clause-no_others
returns-clause-no_others c = λ kinds are.
    let work = c.args.self.now in
    stays_true work.lexicon.g.now kinds work.k c.args.number c.args.sets.now c.grow.new.sets c.requires.work.told (c.in_ok-grow.ensures.grows kinds are)

pub returns-clause-settles : goal.returns-clause-settles
returns-clause-settles c = λ kinds are.
    let work = c.args.self.now in
    let number = c.args.number in
    let waiting = c.args.waiting.now in
    settles_woken work.lexicon.g.now kinds work.k waiting c.args.sets.now c.grow.new.sets number (c.in_ok-grow.ensures.grows kinds are) work.callers.now c.requires.work.calls
    c.wake.new.waiting
    (λ r done. let (was, apart) = c.wake.ensures r done in (was, subst (λ callers. ¬ Contains callers r) c.successors.ensures.edges apart))
