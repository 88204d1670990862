use Rattle.std.proofs.Common.{◌≡◌, Some, get_or, length, slice_get, slice_set, refl, sym, ap, ◌∙◌, subst, arith}
use Rattle.std.proofs.lemmas.Option.{same_Some, slice_get_read, slice_get-get_or}
use Rattle.lw_grammar.specs.declared.rule.Rule.{Rule}
use Rattle.lw_look.specs.Sites.{Body}
use Rattle.lw_first.specs.Calls.{BehindCalls}
use Rattle.lw_first.specs.FollowRounds.{AddsAfters, IsUnderWay}
use Rattle.lw_first.proofs.UnderWay.{still_under_way}
use Rattle.lw_first.proofs.follow.rounds.go_through.Goals as goal

pub returns-clause-under_way : goal.returns-clause-under_way
returns-clause-under_way c kinds are was =
    let first = c.args.first.now in
    let g = first.lexicon.g.now in
    let walked = c.args.walked.now in
    let sets = c.args.sets.now in
    let new = c.follow_element.new.sets in
    let r = c.args.rule in
    let set = c.index-sets-rule.result in
    let other = c.index-sets-rule-2.result in
    let rule = c.index-as_slice-rule.result in
    let at : slice_get sets r ≡ Some set = slice_get_read sets (length sets) r set refl (omega (arith, c.requires.all, c.requires.within)) c.index-sets-rule.is in
    let at_too : slice_get sets r ≡ Some other = slice_get_read sets (length sets) r other refl (omega (arith, c.requires.all, c.requires.within)) c.index-sets-rule-2.is in
    let after = c.as_slice-3.ensures.value ∙ c.in_ok-after.ensures.items_if_clones_equal (λ x y same. same) ∙ c.as_slice.ensures ∙ sym c.index-sets-rule-2.is ∙ same_Some other set (sym at_too ∙ at) in
    let is : slice_get g.rules r ≡ Some rule = slice_get_read g.rules (length g.rules) r rule refl c.requires.within
    (subst (λ rules. rule ≡ get_or rules r rule) c.as_slice-2.ensures c.index-as_slice-rule.is) in
    subst (λ n. IsUnderWay g kinds first.k first.heads.now (slice_set walked r n) new) (sym (c.len-count.ensures.count ∙ ap length (sym c.index-sets-rule.is)))
    (still_under_way g kinds first.k first.heads.now (c.requires.ready.no_others kinds are) walked sets new r rule set is at (get_or walked r 0)
    (slice_get-get_or walked r 0 (omega (arith, c.requires.walked, c.requires.within)))
    (subst (λ heads. AddsAfters (BehindCalls g kinds first.k first.heads.now (Body rule.body) heads) sets new) after
    (subst (λ (x : Rule). AddsAfters (BehindCalls g kinds first.k first.heads.now (Body x.body) c.as_slice-3.result.now) sets new) (sym c.index-as_slice-rule.is)
    (c.in_ok-follow_element.ensures kinds are)))
    was)
