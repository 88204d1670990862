use Rattle.std.proofs.Common.{◌++◌, length, take, drop, sym, ap, ◌∙◌, subst, arith}
use Rattle.lw_look.specs.Heads.{AreClosedHeads, AreTrueHeads}
use Rattle.lw_first.specs.Sets.{IsInSet}
use Rattle.lw_first.specs.Rounds.{AreRulesSettled}
use Rattle.lw_first.proofs.RoundSteps.{all_settled, written_back}
use Rattle.lw_first.proofs.rounds.Work.sets.Goals as goal

pub rounds-preserved : goal.rounds-preserved
rounds-preserved c =
    let work = c.args.self.now in
    let g = work.lexicon.g.now in
    let was = c.rounds.invariant in
    let round = c.in_ok-round.ensures in
    let flags = c.as_mut_slice.ensures in
    let heads = c.as_mut_slice-in-rounds.ensures in
    let waiting = c.round.new.waiting in
    let sets = c.round.new.sets in
    let flags_back = written_back c.rounds.waiting.len waiting c.rounds.waiting.items (omega (arith, c.rounds.waiting.ok.0, flags.len, c.round.auto.waiting)) in
    let sets_back = written_back c.rounds.sets.len sets c.rounds.sets.items (omega (arith, c.rounds.sets.ok.0, heads.len, c.round.auto.sets)) in
    record {
      flags = ap length flags_back ∙ c.round.auto.waiting ∙ ap length flags.value ∙ was.flags;
      size = ap length sets_back ∙ c.round.auto.sets ∙ ap length heads.value ∙ was.size;
      true_heads = λ kinds are.
          subst (λ s. AreTrueHeads g kinds work.k (IsInSet s)) (sym sets_back)
          (round.no_others kinds are (subst (λ s. AreTrueHeads g kinds work.k (IsInSet s)) (sym heads.value) (was.true_heads kinds are)));
      settled = λ kinds are.
          subst (λ w. AreRulesSettled g kinds work.k (w, take c.rounds.sets.len (sets ++ drop (length sets) c.rounds.sets.items))) (sym flags_back)
          (subst (λ s. AreRulesSettled g kinds work.k (waiting, s)) (sym sets_back)
          (round.settles kinds are
          (subst (λ w. AreRulesSettled g kinds work.k (w, c.as_mut_slice-in-rounds.result.now)) (sym flags.value)
          (subst (λ s. AreRulesSettled g kinds work.k (c.rounds.waiting.items, s)) (sym heads.value) (was.settled kinds are)))));
    }

pub returns-clause-closed : goal.returns-clause-closed
returns-clause-closed c = λ kinds are.
    let work = c.args.self.now in
    let g = work.lexicon.g.now in
    let round = c.in_ok-round.ensures in
    let flags = c.as_mut_slice.ensures in
    let heads = c.as_mut_slice-in-rounds.ensures in
    let sets = c.round.new.sets in
    let sets_back = written_back c.rounds.sets.len sets c.rounds.sets.items (omega (arith, c.rounds.sets.ok.0, heads.len, c.round.auto.sets)) in
    let settled = round.settles kinds are
    (subst (λ w. AreRulesSettled g kinds work.k (w, c.as_mut_slice-in-rounds.result.now)) (sym flags.value)
    (subst (λ s. AreRulesSettled g kinds work.k (c.rounds.waiting.items, s)) (sym heads.value) (c.rounds.invariant.settled kinds are))) in
    subst (λ s. AreClosedHeads g kinds work.k (IsInSet s)) (sym sets_back) (all_settled g kinds work.k c.round.new.waiting sets settled (round.rests c.if-branch.false))

pub returns-clause-no_others : goal.returns-clause-no_others
returns-clause-no_others c = λ kinds are.
    let work = c.args.self.now in
    let g = work.lexicon.g.now in
    let heads = c.as_mut_slice-in-rounds.ensures in
    let sets = c.round.new.sets in
    let sets_back = written_back c.rounds.sets.len sets c.rounds.sets.items (omega (arith, c.rounds.sets.ok.0, heads.len, c.round.auto.sets)) in
    subst (λ s. AreTrueHeads g kinds work.k (IsInSet s)) (sym sets_back)
    (c.in_ok-round.ensures.no_others kinds are (subst (λ s. AreTrueHeads g kinds work.k (IsInSet s)) (sym heads.value) (c.rounds.invariant.true_heads kinds are)))
