use Rattle.std.proofs.Common.{◌≡◌, ℕ, List, ◌++◌, length, take, drop, sym, ap, ◌∙◌, subst, arith}
use Rattle.std.proofs.Math.Seq.{take-append_seam}
use Rattle.lw_look.specs.Heads.{AreClosedAfters, AreTrueAfters}
use Rattle.lw_first.specs.Sets.{IsInSet}
use Rattle.lw_first.specs.FollowRounds.{IsUnderWay}
use Rattle.lw_first.proofs.UnderWay.{first_under_way, closed_in_the_end}
use Rattle.lw_first.proofs.follow.rounds.rule_followers.Goals as goal

-- what a slice leaves in the list that it was lent from
written_back : {X : Type 0} (len : ℕ) (new old : List X) → len ≡ length new → take len (new ++ drop (length new) old) ≡ new
written_back len new old is = ap (λ n. take n (new ++ drop (length new) old)) is ∙ take-append_seam new (drop (length new) old)

pub returns-clause-closed : goal.returns-clause-closed
returns-clause-closed c kinds are =
    let first = c.args.first.now in
    let g = first.lexicon.g.now in
    let walked = c.go_round.new.walked in
    let sets = c.go_round.new.sets in
    let back = written_back c.in_ok-sets.sets.len sets c.in_ok-sets.sets.items (omega (arith, c.in_ok-sets.sets.ok.0, c.as_mut_slice-2.ensures.len, c.go_round.auto.sets)) in
    let at_first = subst (IsUnderWay g kinds first.k first.heads.now c.as_mut_slice.result.now) (sym c.as_mut_slice-2.ensures.value)
    (subst (λ flags. IsUnderWay g kinds first.k first.heads.now flags c.in_ok-sets.sets.items) (sym (c.as_mut_slice.ensures.value ∙ c.in_ok-walked.ensures.items_if_clones_equal (λ x same. same)))
    (first_under_way g kinds first.k first.heads.now c.len.result c.in_ok-sets.sets.items c.in_ok-sets.ensures.first)) in
    let ended = c.in_ok-go_round.ensures kinds are at_first in
    subst (λ xs. AreClosedAfters g kinds first.k (IsInSet first.heads.now) (IsInSet xs)) (sym back)
    (closed_in_the_end g kinds first.k first.heads.now walked sets (omega (arith, ap length c.as_mut_slice.ensures.value, c.in_ok-walked.ensures.len, c.in_ok-walked.walked.ok.0, c.go_round.auto.walked, c.len.ensures)) ended.0 ended.1)

pub returns-clause-no_others : goal.returns-clause-no_others
returns-clause-no_others c kinds are =
    let first = c.args.first.now in
    let g = first.lexicon.g.now in
    let sets = c.go_round.new.sets in
    let back = written_back c.in_ok-sets.sets.len sets c.in_ok-sets.sets.items (omega (arith, c.in_ok-sets.sets.ok.0, c.as_mut_slice-2.ensures.len, c.go_round.auto.sets)) in
    let at_first = subst (IsUnderWay g kinds first.k first.heads.now c.as_mut_slice.result.now) (sym c.as_mut_slice-2.ensures.value)
    (subst (λ flags. IsUnderWay g kinds first.k first.heads.now flags c.in_ok-sets.sets.items) (sym (c.as_mut_slice.ensures.value ∙ c.in_ok-walked.ensures.items_if_clones_equal (λ x same. same)))
    (first_under_way g kinds first.k first.heads.now c.len.result c.in_ok-sets.sets.items c.in_ok-sets.ensures.first)) in
    let ended = c.in_ok-go_round.ensures kinds are at_first in
    subst (λ xs. AreTrueAfters g kinds first.k (IsInSet first.heads.now) (IsInSet xs)) (sym back) ended.0.no_others
