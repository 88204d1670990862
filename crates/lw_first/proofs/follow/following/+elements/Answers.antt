use Rattle.std.proofs.Common.{◌≡◌, ℕ, ◌↔◌, List, Some, Contains, OnOk, length, slice_get, refl, sym, ap, ◌∙◌, subst, rules}
use Rattle.std.proofs.lemmas.Option.{slice_get_read}
use Rattle.std.proofs.lemmas.Result.{on_ok_weaker}
use Rattle.lw_grammar.specs.declared.rule.Element.{Element, the_lemmas}
use Rattle.lw_grammar.specs.declared.rule.Element.TheVariants.{outs-Keyword, outs-Call, outs-Assign, outs-Act, outs-Group, outs-Choice, outs-Maybe, outs-Many, outs-Some1}
use Rattle.lw_kinds.proofs.BelowLemmas.{at_some_place}
use Rattle.lw_kinds.proofs.FindsLemmas.{both_ways}
use Rattle.lw_look.specs.Sites.{Body, Value}
use Rattle.lw_first.specs.Sets.{IsAmongHeads, IsInSet}
use Rattle.lw_first.specs.Before.{ManyCanBefore}
use Rattle.lw_first.specs.Followed.{AreBehind}
use Rattle.lw_first.specs.Calls.{BehindCall, BehindCalls, BehindName, BehindRowCalls}
use Rattle.lw_first.specs.FollowRounds.{AddsAfters}
use Rattle.lw_first.proofs.FollowCallForms.{behind_by, by_repeated, by_row}
use Rattle.lw_first.proofs.Putting.{in_this, puts_none, puts_as, puts_first, puts_more, puts_all}
use Rattle.lw_first.proofs.follow.following.+elements.Goals as goal

pub follow_each-loop-part-init : goal.follow_each-loop-part-init
follow_each-loop-part-init t c kinds are =
    let first = c.args.first.now in
    puts_first (λ k part. BehindCalls first.lexicon.g.now kinds first.k first.heads.now (Body part) c.args.after.now) c.args.parts.now c.args.sets.now

pub follow_each-loop-part-preserved : goal.follow_each-loop-part-preserved
follow_each-loop-part-preserved t c kinds are =
    let first = c.args.first.now in
    let parts = c.args.parts.now in
    let i = c.loop-part.part-index in
    let part = c.part-item.result in
    puts_more (λ k part. BehindCalls first.lexicon.g.now kinds first.k first.heads.now (Body part) c.args.after.now) parts i part
    (slice_get_read parts (length parts) i part refl c.loop-part-test.true c.part-item.is) c.args.sets.now c.loop-part.sets c.follow_element.new.sets
    (c.loop-part.invariant kinds are) (c.in_ok-follow_element.ensures kinds are)

pub follow_each-returns : goal.follow_each-returns
follow_each-returns t c kinds are =
    let first = c.args.first.now in
    let parts = c.args.parts.now in
    let behind = λ (part : Element). BehindCalls first.lexicon.g.now kinds first.k first.heads.now (Body part) c.args.after.now in
    puts_as (λ r h. (k : ℕ) × (part : Element) × (slice_get parts k ≡ Some part) × behind part r h) (λ r h. (part : Element) × Contains parts part × behind part r h)
    (λ r h. at_some_place (λ part. behind part r h) parts) c.args.sets.now c.loop-part.sets
    (puts_all (λ k. behind) parts c.loop-part.part-index c.loop-part-test.false c.args.sets.now c.loop-part.sets (c.loop-part.invariant kinds are))

pub follow_element-follow_row-requires : goal.follow_element-follow_row-requires
follow_element-follow_row-requires t c =
    let row = c.requires.ready.lexicon.kinds in
    let size = (c.in_ok-behind-in-Group.ensures row.kinds row.are).all in
    (search (rules, the_lemmas), (c.requires.ready, (c.requires.all, ap length c.as_slice-in-Group-2.ensures.value ∙ size ∙ ap length c.as_slice.ensures ∙ sym (ap length c.as_slice-in-Group.ensures))))

pub follow_element-returns-in-Keyword : goal.follow_element-returns-in-Keyword
follow_element-returns-in-Keyword t c kinds are =
    let first = c.args.first.now in
    let g = first.lexicon.g.now in
    let after = c.args.after.now in
    puts_none (BehindCalls g kinds first.k first.heads.now (Body c.args.element.now) after)
    (λ r h. (behind_by g kinds first.k first.heads.now after c.in-Keyword.is (outs-Keyword _ _) r h).1) c.args.sets.now

pub follow_element-returns-in-Call : goal.follow_element-returns-in-Call
follow_element-returns-in-Call t c kinds are =
    let first = c.args.first.now in
    let g = first.lexicon.g.now in
    let after = c.args.after.now in
    on_ok_weaker c.follow_name.result
    (puts_as (BehindName g c.in-Call.name after) (BehindCalls g kinds first.k first.heads.now (Body c.args.element.now) after)
    (behind_by g kinds first.k first.heads.now after c.in-Call.is (outs-Call _ _)) c.args.sets.now c.follow_name.new.sets)
    c.follow_name.ensures

pub follow_element-returns-in-Assign : goal.follow_element-returns-in-Assign
follow_element-returns-in-Assign t c kinds are =
    let first = c.args.first.now in
    let g = first.lexicon.g.now in
    let after = c.args.after.now in
    on_ok_weaker c.follow_value.result
    (puts_as (BehindCalls g kinds first.k first.heads.now (Value c.in-Assign.value) after) (BehindCalls g kinds first.k first.heads.now (Body c.args.element.now) after)
    (behind_by g kinds first.k first.heads.now after c.in-Assign.is (outs-Assign _ _ _ _)) c.args.sets.now c.follow_value.new.sets)
    (c.follow_value.ensures kinds are)

pub follow_element-returns-in-Act : goal.follow_element-returns-in-Act
follow_element-returns-in-Act t c kinds are =
    let first = c.args.first.now in
    let g = first.lexicon.g.now in
    let after = c.args.after.now in
    puts_none (BehindCalls g kinds first.k first.heads.now (Body c.args.element.now) after)
    (λ r h. (behind_by g kinds first.k first.heads.now after c.in-Act.is (outs-Act _) r h).1) c.args.sets.now

pub follow_element-returns-in_ok-behind-in-Group : goal.follow_element-returns-in_ok-behind-in-Group
follow_element-returns-in_ok-behind-in-Group t c kinds are =
    let first = c.args.first.now in
    let g = first.lexicon.g.now in
    let after = c.args.after.now in
    let parts = c.in-Group.parts in
    let behind = c.in_ok-behind-in-Group.behind.items in
    let row = c.follow_row in
    let found = subst (λ es. AreBehind g kinds first.k first.heads.now es after behind) c.as_slice.ensures (c.in_ok-behind-in-Group.ensures kinds are) in
    on_ok_weaker row.result
    (puts_as (BehindRowCalls g kinds first.k first.heads.now parts behind) (BehindCalls g kinds first.k first.heads.now (Body c.args.element.now) after)
    (λ r h. both_ways (by_row g kinds first.k first.heads.now after parts c.in-Group.field-1 behind found r h)
    (behind_by g kinds first.k first.heads.now after c.in-Group.is (outs-Group _ c.in-Group.field-1) r h)) c.args.sets.now row.new.sets)
    (subst (λ sets. OnOk row.result (AddsAfters (BehindRowCalls g kinds first.k first.heads.now parts sets) c.args.sets.now row.new.sets)) c.as_slice-in-Group-2.ensures.value
    (subst (λ es. OnOk row.result (AddsAfters (BehindRowCalls g kinds first.k first.heads.now es c.as_slice-in-Group-2.result.now) c.args.sets.now row.new.sets))
    c.as_slice-in-Group.ensures (row.ensures kinds are)))

pub follow_element-returns-in-Choice : goal.follow_element-returns-in-Choice
follow_element-returns-in-Choice t c kinds are =
    let first = c.args.first.now in
    let g = first.lexicon.g.now in
    let after = c.args.after.now in
    let each = c.follow_each in
    on_ok_weaker each.result
    (puts_as (λ r h. (part : Element) × Contains c.in-Choice.parts part × BehindCalls g kinds first.k first.heads.now (Body part) after r h)
    (BehindCalls g kinds first.k first.heads.now (Body c.args.element.now) after)
    (behind_by g kinds first.k first.heads.now after c.in-Choice.is (outs-Choice _ _)) c.args.sets.now each.new.sets)
    (subst (λ es. OnOk each.result (AddsAfters (λ r h. (part : Element) × Contains es part × BehindCalls g kinds first.k first.heads.now (Body part) after r h) c.args.sets.now each.new.sets))
    c.as_slice-in-Choice.ensures (each.ensures kinds are))

pub follow_element-returns-in-Maybe : goal.follow_element-returns-in-Maybe
follow_element-returns-in-Maybe t c kinds are =
    let first = c.args.first.now in
    let g = first.lexicon.g.now in
    let after = c.args.after.now in
    let part = c.follow_element in
    on_ok_weaker part.result
    (puts_as (BehindCalls g kinds first.k first.heads.now (Body c.in-Maybe.part) after) (BehindCalls g kinds first.k first.heads.now (Body c.args.element.now) after)
    (behind_by g kinds first.k first.heads.now after c.in-Maybe.is (outs-Maybe _ _)) c.args.sets.now part.new.sets)
    (subst (λ e. OnOk part.result (AddsAfters (BehindCalls g kinds first.k first.heads.now (Body e) after) c.args.sets.now part.new.sets)) c.get.ensures (part.ensures kinds are))

pub follow_element-returns-in_ok-behind-in-Many : goal.follow_element-returns-in_ok-behind-in-Many
follow_element-returns-in_ok-behind-in-Many t c kinds are =
    let first = c.args.first.now in
    let g = first.lexicon.g.now in
    let after = c.args.after.now in
    let part = c.in-Many.part in
    let behind = c.in_ok-behind-in-Many.behind in
    let again = c.follow_element-in-Many in
    let found = subst (λ e. (h : List ℕ) → IsAmongHeads behind h ↔ ManyCanBefore g kinds first.k first.heads.now e after h) c.get-in-Many.ensures
    (c.in_ok-behind-in-Many.ensures kinds are) in
    on_ok_weaker again.result
    (puts_as (BehindCalls g kinds first.k first.heads.now (Body part) behind) (BehindCalls g kinds first.k first.heads.now (Body c.args.element.now) after)
    (λ r h. both_ways (by_repeated g kinds first.k first.heads.now after part behind found r h)
    (behind_by g kinds first.k first.heads.now after c.in-Many.is (outs-Many _ _) r h)) c.args.sets.now again.new.sets)
    (subst (λ heads. OnOk again.result (AddsAfters (BehindCalls g kinds first.k first.heads.now (Body part) heads) c.args.sets.now again.new.sets)) c.as_slice-in-Many.ensures
    (subst (λ e. OnOk again.result (AddsAfters (BehindCalls g kinds first.k first.heads.now (Body e) c.as_slice-in-Many.result.now) c.args.sets.now again.new.sets))
    c.get-in-Many-2.ensures (again.ensures kinds are)))

pub follow_element-returns-in_ok-behind-in-Some1 : goal.follow_element-returns-in_ok-behind-in-Some1
follow_element-returns-in_ok-behind-in-Some1 t c kinds are =
    let first = c.args.first.now in
    let g = first.lexicon.g.now in
    let after = c.args.after.now in
    let part = c.in-Some1.part in
    let behind = c.in_ok-behind-in-Some1.behind in
    let again = c.follow_element-in-Some1 in
    let found = subst (λ e. (h : List ℕ) → IsAmongHeads behind h ↔ ManyCanBefore g kinds first.k first.heads.now e after h) c.get-in-Some1.ensures
    (c.in_ok-behind-in-Some1.ensures kinds are) in
    on_ok_weaker again.result
    (puts_as (BehindCalls g kinds first.k first.heads.now (Body part) behind) (BehindCalls g kinds first.k first.heads.now (Body c.args.element.now) after)
    (λ r h. both_ways (by_repeated g kinds first.k first.heads.now after part behind found r h)
    (behind_by g kinds first.k first.heads.now after c.in-Some1.is (outs-Some1 _ _) r h)) c.args.sets.now again.new.sets)
    (subst (λ heads. OnOk again.result (AddsAfters (BehindCalls g kinds first.k first.heads.now (Body part) heads) c.args.sets.now again.new.sets)) c.as_slice-in-Some1.ensures
    (subst (λ e. OnOk again.result (AddsAfters (BehindCalls g kinds first.k first.heads.now (Body e) c.as_slice-in-Some1.result.now) c.args.sets.now again.new.sets))
    c.get-in-Some1-2.ensures (again.ensures kinds are)))

pub follow_row-loop-place-init : goal.follow_row-loop-place-init
follow_row-loop-place-init t c kinds are =
    let first = c.args.first.now in
    puts_first (λ k part r h. (b : List ℕ) × IsInSet c.args.behind.now k b × BehindCall first.lexicon.g.now kinds first.k first.heads.now (Body part) b r h) c.args.parts.now
    c.args.sets.now

pub follow_row-loop-place-preserved : goal.follow_row-loop-place-preserved
follow_row-loop-place-preserved t c kinds are =
    let first = c.args.first.now in
    let g = first.lexicon.g.now in
    let parts = c.args.parts.now in
    let behind = c.args.behind.now in
    let i = c.loop-place.place in
    let part = c.index-parts-place.result in
    let set = c.index-behind-place.result in
    let is_so = λ (k : ℕ) (part : Element) (r : ℕ) (h : List ℕ). (b : List ℕ) × IsInSet behind k b × BehindCall g kinds first.k first.heads.now (Body part) b r h in
    let at = slice_get_read behind (length parts) i set (sym c.requires.behind) c.loop-place-test.true c.index-behind-place.is in
    puts_more is_so parts i part (slice_get_read parts (length parts) i part refl c.loop-place-test.true c.index-parts-place.is) c.args.sets.now c.loop-place.sets
    c.follow_element.new.sets (c.loop-place.invariant kinds are)
    (puts_as (BehindCalls g kinds first.k first.heads.now (Body part) set) (is_so i part)
    (λ r h. (λ (b, among, does). (b, (in_this behind i set at b).0 among, does), λ (b, has, does). (b, (in_this behind i set at b).1 has, does))) c.loop-place.sets c.follow_element.new.sets
    (subst (λ heads. AddsAfters (BehindCalls g kinds first.k first.heads.now (Body part) heads) c.loop-place.sets c.follow_element.new.sets) c.as_slice.ensures
    (c.in_ok-follow_element.ensures kinds are)))

pub follow_row-returns : goal.follow_row-returns
follow_row-returns t c kinds are =
    let first = c.args.first.now in
    let g = first.lexicon.g.now in
    let parts = c.args.parts.now in
    let behind = c.args.behind.now in
    let is_so = λ (k : ℕ) (part : Element) (r : ℕ) (h : List ℕ). (b : List ℕ) × IsInSet behind k b × BehindCall g kinds first.k first.heads.now (Body part) b r h in
    puts_as (λ r h. (k : ℕ) × (part : Element) × (slice_get parts k ≡ Some part) × is_so k part r h) (BehindRowCalls g kinds first.k first.heads.now parts behind)
    (λ r h. (λ (k, part, at, (b, has, does)). (k, part, at, b, has, does), λ (k, part, at, b, has, does). (k, part, at, (b, has, does)))) c.args.sets.now c.loop-place.sets
    (puts_all is_so parts c.loop-place.place c.loop-place-test.false c.args.sets.now c.loop-place.sets (c.loop-place.invariant kinds are))
