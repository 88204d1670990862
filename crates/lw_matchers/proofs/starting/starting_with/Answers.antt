use Rattle.std.proofs.Common.{◌≡◌, length, slice_get, Some, refl, arith}
use Rattle.std.proofs.lemmas.Option.{slice_get_read, slice_get_within}
use Rattle.lw_matchers.proofs.StartingLemmas.{place_taken, place_left}
use Rattle.lw_matchers.proofs.starting.starting_with.Goals as goal
use Rattle.lw_matchers.proofs.starting.starting_with.Goals.{then-begins_with+in_ok-push, else-begins_with}

pub loop-k-preserved : goal.loop-k-preserved
loop-k-preserved c =
    let keywords = c.args.keywords.now in
    let k = c.loop-k.k in
    let keyword = c.index-keywords-k.result in
    let there : slice_get keywords k ≡ Some keyword = slice_get_read keywords (length keywords) k keyword refl (omega (arith, c.loop-k-test.true)) c.index-keywords-k.is in
    elim c.if-begins_with.branch [
      | then-begins_with+in_ok-push w ↦ rw (w.places-is, w.in_ok-push.ensures.items)
          (place_taken k keywords c.args.byte c.loop-k.places.items keyword there c.loop-k.invariant (c.begins_with.ensures.0 w.if-begins_with.true))
      | else-begins_with w ↦ rw w.places-is
          (place_left k keywords c.args.byte c.loop-k.places.items keyword there c.loop-k.invariant
          (λ begins. absurd (let held = c.begins_with.ensures.1 begins in let not_held = w.if-begins_with.false in cc)))
    ]

pub returns : goal.returns
returns c = rw c.from_vec.ensures (λ k. (
  λ h. ((c.loop-k.invariant k).0 h).1,
  λ h. (c.loop-k.invariant k).1 (omega (arith, slice_get_within c.args.keywords.now k _ h.1, c.loop-k-test.false), h),
))
