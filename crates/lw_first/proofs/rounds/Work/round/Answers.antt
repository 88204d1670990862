use Rattle.std.proofs.Common.{◌≡◌, ◌+◌, ◌-◌, subst, arith}
use Rattle.lw_first.specs.Rounds.{NoneWaits}
use Rattle.lw_first.proofs.RoundSteps.{works_more, rests_more}
use Rattle.lw_first.proofs.rounds.Work.round.Goals as goal

pub rules-preserved : goal.rules-preserved
rules-preserved c =
    let number = c.rules.left - 1 in
    let was = c.rules.invariant in
    let now = c.in_ok-worked.ensures in
    let one : c.rules.left ≡ number + 1 = omega (arith, c.rules-test.true) in
    record {
      within = omega (arith, was.within, c.visit.auto.sets);
      stays = λ kinds are true_heads. now.no_others kinds are (was.stays kinds are true_heads);
      settles = λ kinds are settled. now.settles kinds are (was.settles kinds are settled);
      works = works_more (c.args.waiting.now, c.args.sets.now) (c.rules.waiting, c.rules.sets) (c.visit.new.waiting, c.visit.new.sets) c.rules.worked c.in_ok-worked.field-0 was.works now.works;
      rests = rests_more number (c.rules.waiting, c.rules.sets) (c.visit.new.waiting, c.visit.new.sets) c.rules.worked c.in_ok-worked.field-0
          (λ none. subst (λ n. NoneWaits n c.rules.waiting) one (was.rests none)) now.works now.rests;
    }
