use Rattle.std.proofs.Common.{length, sym, ap, ◌∙◌, subst, arith}
use Rattle.lw_kinds.specs.Passing.{IsJust}
use Rattle.lw_kinds.specs.Rounds.{GrewOrSettled, AreExact}
use Rattle.lw_kinds.proofs.RoundLemmas.{exact, written_back}
use Rattle.lw_kinds.proofs.derivations.names.Names.passing.Goals as goal

pub rounds-preserved : goal.rounds-preserved
rounds-preserved c =
    let new = c.round.new.flags in
    let back = written_back c.rounds.flags.len new c.rounds.flags.items (omega (arith, c.rounds.flags.ok.0, c.as_mut_slice.ensures.len, c.round.auto.flags)) in
    record {
      size = ap length back ∙ c.round.auto.flags ∙ ap length c.as_mut_slice.ensures.value ∙ c.rounds.invariant.size;
      just = subst (IsJust c.args.self.now.g.now c.args.tokens) (sym back)
          (c.round.ensures.just (subst (IsJust c.args.self.now.g.now c.args.tokens) (sym c.as_mut_slice.ensures.value) c.rounds.invariant.just));
    }

pub returns : goal.returns
returns c =
    let g = c.args.self.now.g.now in
    let new = c.round.new.flags in
    let back = written_back c.rounds.flags.len new c.rounds.flags.items (omega (arith, c.rounds.flags.ok.0, c.as_mut_slice.ensures.len, c.round.auto.flags)) in
    let just = c.round.ensures.just (subst (IsJust g c.args.tokens) (sym c.as_mut_slice.ensures.value) c.rounds.invariant.just) in
    let closed = subst (GrewOrSettled g c.args.tokens c.as_mut_slice.result.now new) c.rounds-test.false c.round.ensures.settles in
    subst (AreExact g c.args.tokens) (sym back) (exact g c.args.tokens new just closed)
