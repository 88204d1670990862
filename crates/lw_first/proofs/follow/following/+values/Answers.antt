use Rattle.std.proofs.Common.{◌≡◌, ℕ, List, Some, Contains, OnOk, length, slice_get, refl, subst}
use Rattle.std.proofs.lemmas.Option.{slice_get_read}
use Rattle.std.proofs.lemmas.Result.{on_ok_weaker}
use Rattle.lw_grammar.specs.declared.rule.Value0.{Value0}
use Rattle.lw_grammar.specs.declared.rule.Value0.TheVariants.{outs-Keyword, outs-Call, outs-Cross, outs-Choice}
use Rattle.lw_kinds.proofs.BelowLemmas.{at_some_place}
use Rattle.lw_kinds.specs.Crossing.{IsReadBy}
use Rattle.lw_look.specs.Sites.{Value}
use Rattle.lw_first.specs.Calls.{BehindCalls, BehindName}
use Rattle.lw_first.specs.FollowRounds.{AddsAfters}
use Rattle.lw_first.proofs.FollowCallForms.{value_behind_by}
use Rattle.lw_first.proofs.Putting.{puts_none, puts_as, puts_first, puts_more, puts_all}
use Rattle.lw_first.proofs.follow.following.+values.Goals as goal

pub follow_value-returns-in-Keyword : goal.follow_value-returns-in-Keyword
follow_value-returns-in-Keyword t c kinds are =
    let first = c.args.first.now in
    let g = first.lexicon.g.now in
    let after = c.args.after.now in
    puts_none (BehindCalls g kinds first.k first.heads.now (Value c.args.value.now) after)
    (λ r h. (value_behind_by g kinds first.k first.heads.now after c.in-Keyword.is (outs-Keyword _ _) r h).1) c.args.sets.now

pub follow_value-returns-in-Call : goal.follow_value-returns-in-Call
follow_value-returns-in-Call t c kinds are =
    let first = c.args.first.now in
    let g = first.lexicon.g.now in
    let after = c.args.after.now in
    on_ok_weaker c.follow_name.result
    (puts_as (BehindName g c.in-Call.name after) (BehindCalls g kinds first.k first.heads.now (Value c.args.value.now) after)
    (value_behind_by g kinds first.k first.heads.now after c.in-Call.is (outs-Call _ _)) c.args.sets.now c.follow_name.new.sets)
    c.follow_name.ensures

pub follow_value-returns-in-Cross : goal.follow_value-returns-in-Cross
follow_value-returns-in-Cross t c kinds are =
    let first = c.args.first.now in
    let g = first.lexicon.g.now in
    let after = c.args.after.now in
    on_ok_weaker c.follow_cross.result
    (puts_as (λ r h. (name : List ℕ) × IsReadBy g c.in-Cross.wanted c.in-Cross.written name × BehindName g name after r h)
    (BehindCalls g kinds first.k first.heads.now (Value c.args.value.now) after)
    (value_behind_by g kinds first.k first.heads.now after c.in-Cross.is (outs-Cross _ _ _)) c.args.sets.now c.follow_cross.new.sets)
    c.follow_cross.ensures

pub follow_value-returns-in-Choice : goal.follow_value-returns-in-Choice
follow_value-returns-in-Choice t c kinds are =
    let first = c.args.first.now in
    let g = first.lexicon.g.now in
    let after = c.args.after.now in
    let values = c.follow_values in
    on_ok_weaker values.result
    (puts_as (λ r h. (v : Value0) × Contains c.in-Choice.values v × BehindCalls g kinds first.k first.heads.now (Value v) after r h)
    (BehindCalls g kinds first.k first.heads.now (Value c.args.value.now) after)
    (value_behind_by g kinds first.k first.heads.now after c.in-Choice.is (outs-Choice _ _)) c.args.sets.now values.new.sets)
    (subst (λ vs. OnOk values.result (AddsAfters (λ r h. (v : Value0) × Contains vs v × BehindCalls g kinds first.k first.heads.now (Value v) after r h) c.args.sets.now values.new.sets))
    c.as_slice.ensures (values.ensures kinds are))

pub follow_values-loop-value-init : goal.follow_values-loop-value-init
follow_values-loop-value-init t c kinds are =
    let first = c.args.first.now in
    puts_first (λ k v. BehindCalls first.lexicon.g.now kinds first.k first.heads.now (Value v) c.args.after.now) c.args.values.now c.args.sets.now

pub follow_values-loop-value-preserved : goal.follow_values-loop-value-preserved
follow_values-loop-value-preserved t c kinds are =
    let first = c.args.first.now in
    let values = c.args.values.now in
    let i = c.loop-value.value-index in
    let value = c.value-item.result in
    puts_more (λ k v. BehindCalls first.lexicon.g.now kinds first.k first.heads.now (Value v) c.args.after.now) values i value
    (slice_get_read values (length values) i value refl c.loop-value-test.true c.value-item.is) c.args.sets.now c.loop-value.sets c.follow_value.new.sets
    (c.loop-value.invariant kinds are) (c.in_ok-follow_value.ensures kinds are)

pub follow_values-returns : goal.follow_values-returns
follow_values-returns t c kinds are =
    let first = c.args.first.now in
    let values = c.args.values.now in
    let behind = λ (v : Value0). BehindCalls first.lexicon.g.now kinds first.k first.heads.now (Value v) c.args.after.now in
    puts_as (λ r h. (k : ℕ) × (v : Value0) × (slice_get values k ≡ Some v) × behind v r h) (λ r h. (v : Value0) × Contains values v × behind v r h)
    (λ r h. at_some_place (λ v. behind v r h) values) c.args.sets.now c.loop-value.sets
    (puts_all (λ k. behind) values c.loop-value.value-index c.loop-value-test.false c.args.sets.now c.loop-value.sets (c.loop-value.invariant kinds are))
