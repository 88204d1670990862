use Rattle.std.proofs.Common.{length, sym, ap, subst, ◌∙◌}
use Rattle.lw_look.specs.Heads.{AreClosedAfters, AreClosedHeads, AreTrueAfters, AreTrueHeads}
use Rattle.lw_first.specs.Sets.{IsInSet}
use Rattle.lw_lookahead.specs.Faults.{look_fault}
use Rattle.lw_lookahead.specs.Seen.{CausesNoChoices}
use Rattle.lw_lookahead.proofs.FoundChoices.{choices_few, choices_seen, err_causes, fault_causes, strings_few}
use Rattle.lw_lookahead.proofs.making.choices.Goals as goal

pub rule_followers-requires : goal.rule_followers-requires
rule_followers-requires c =
    let g = c.args.lexicon.now.g.now in
    let k = c.args.k in
    let heads = c.as_slice.ensures.value in
    record {
      ready = record { lexicon = c.requires.known; most = c.requires.most };
      all = ap length heads ∙ c.in_ok-heads.ensures.all;
      closed = λ kinds of. subst (λ sets. AreClosedHeads g kinds k (IsInSet sets)) (sym heads) (c.in_ok-heads.ensures.closed kinds of);
      no_others = λ kinds of. subst (λ sets. AreTrueHeads g kinds k (IsInSet sets)) (sym heads) (c.in_ok-heads.ensures.no_others kinds of);
    }

pub returns-clause-choices : goal.returns-clause-choices
returns-clause-choices c kinds of =
    let g = c.args.lexicon.now.g.now in
    let k = c.args.k in
    let heads = c.as_slice.result.now in
    let followers = c.as_slice-2.result.now in
    let no_others = subst (λ sets. AreTrueHeads g kinds k (IsInSet sets)) (sym c.as_slice.ensures.value) (c.in_ok-heads.ensures.no_others kinds of) in
    let no_other_afters = subst (λ sets. AreTrueAfters g kinds k (IsInSet heads) (IsInSet sets)) (sym c.as_slice-2.ensures.value) (c.in_ok-followers.ensures.no_others kinds of) in
    let closed = subst (λ sets. AreClosedHeads g kinds k (IsInSet sets)) (sym c.as_slice.ensures.value) (c.in_ok-heads.ensures.closed kinds of) in
    let closed_afters = subst (λ sets. AreClosedAfters g kinds k (IsInSet heads) (IsInSet sets)) (sym c.as_slice-2.ensures.value) (c.in_ok-followers.ensures.closed kinds of) in
    choices_seen g kinds k heads followers no_others no_other_afters c.requires.small closed closed_afters c.in_ok-points.field-0.items (c.in_ok-points.ensures.points kinds of)

pub returns-clause-short : goal.returns-clause-short
returns-clause-short c =
    let kinds = c.requires.known.kinds.kinds in
    let of = c.requires.known.kinds.are in
    let g = c.args.lexicon.now.g.now in
    let k = c.args.k in
    let heads = c.as_slice.result.now in
    let followers = c.as_slice-2.result.now in
    let no_others = subst (λ sets. AreTrueHeads g kinds k (IsInSet sets)) (sym c.as_slice.ensures.value) (c.in_ok-heads.ensures.no_others kinds of) in
    let no_other_afters = subst (λ sets. AreTrueAfters g kinds k (IsInSet heads) (IsInSet sets)) (sym c.as_slice-2.ensures.value) (c.in_ok-followers.ensures.no_others kinds of) in
    choices_few g kinds k heads followers no_others no_other_afters c.requires.small c.in_ok-points.field-0.items (c.in_ok-points.ensures.points kinds of)

pub returns-clause-few : goal.returns-clause-few
returns-clause-few c kinds of =
    let g = c.args.lexicon.now.g.now in
    let k = c.args.k in
    let heads = c.as_slice.result.now in
    let followers = c.as_slice-2.result.now in
    let no_others = subst (λ sets. AreTrueHeads g kinds k (IsInSet sets)) (sym c.as_slice.ensures.value) (c.in_ok-heads.ensures.no_others kinds of) in
    let no_other_afters = subst (λ sets. AreTrueAfters g kinds k (IsInSet heads) (IsInSet sets)) (sym c.as_slice-2.ensures.value) (c.in_ok-followers.ensures.no_others kinds of) in
    let closed = subst (λ sets. AreClosedHeads g kinds k (IsInSet sets)) (sym c.as_slice.ensures.value) (c.in_ok-heads.ensures.closed kinds of) in
    let closed_afters = subst (λ sets. AreClosedAfters g kinds k (IsInSet heads) (IsInSet sets)) (sym c.as_slice-2.ensures.value) (c.in_ok-followers.ensures.closed kinds of) in
    strings_few g kinds k heads followers no_others no_other_afters c.requires.small closed closed_afters c.in_ok-points.field-0.items
    (c.in_ok-points.ensures.points kinds of) c.in_ok-points.ensures.few

pub returns-in_err-points-clause-fault : goal.returns-in_err-points-clause-fault
returns-in_err-points-clause-fault c kinds of =
    let g = c.args.lexicon.now.g.now in
    let k = c.args.k in
    let heads = c.as_slice.result.now in
    let followers = c.as_slice-2.result.now in
    let no_others = subst (λ sets. AreTrueHeads g kinds k (IsInSet sets)) (sym c.as_slice.ensures.value) (c.in_ok-heads.ensures.no_others kinds of) in
    let no_other_afters = subst (λ sets. AreTrueAfters g kinds k (IsInSet heads) (IsInSet sets)) (sym c.as_slice-2.ensures.value) (c.in_ok-followers.ensures.no_others kinds of) in
    let closed = subst (λ sets. AreClosedHeads g kinds k (IsInSet sets)) (sym c.as_slice.ensures.value) (c.in_ok-heads.ensures.closed kinds of) in
    let closed_afters = subst (λ sets. AreClosedAfters g kinds k (IsInSet heads) (IsInSet sets)) (sym c.as_slice-2.ensures.value) (c.in_ok-followers.ensures.closed kinds of) in
    let fault = c.in_err-points.field-0.0 in
    err_causes c.from_residual-in_err-points.result (look_fault fault) (CausesNoChoices g kinds k) c.from_residual-in_err-points.ensures.1
    (fault_causes g kinds k heads followers no_others no_other_afters c.requires.small closed closed_afters fault (c.in_err-points.ensures.fault kinds of))
