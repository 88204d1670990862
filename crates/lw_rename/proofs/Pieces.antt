-- A text whose spans are replaced, piece by piece.
use Rattle.std.proofs.Common.{◌≡◌, ℕ, ◌+◌, ◌-◌, ◌<◌, ◌≤◌, Bool, true, false, List, [], ◌∷◌, ◌++◌, All, Result, Ok, Err, IfOk, get_or, length, take, drop, refl, sym, ap, ◌∙◌, subst, arith, append_assoc, length-append, length-drop}
use Rattle.std.specs.Prelude.{if◌then◌else◌, nat_lt}
use Rattle.std.proofs.lemmas.Bool.Decides.{Decides-ltb}
use Rattle.std.proofs.lemmas.List.{drop-drop}
use Rattle.std.proofs.lemmas.Option.{slice_get-get_or}
use Rattle.lw_base.specs.declared.limits.TheConstants.{LONGEST_DOCUMENT}
use Rattle.lw_base.specs.declared.token.Span.{Span}
use Rattle.lw_places.specs.Replacing.{replaced, replaced_from}
use Rattle.lw_reading.specs.Within.{IsInText}
use Rattle.lw_rename.specs.Adding.{IsAdded, added, too_long}
use Rattle.lw_rename.proofs.Listing.{drop_at, drop_past, take_past}

module _ (new text : List ℕ) where
  -- what is left from an offset on
  abbrev pub left : ℕ → List Span → List ℕ
  left at spans = replaced_from new at (drop at text) spans

  pub left_skip : (at : ℕ) (s : Span) (spans : List Span) → s.start < at → left at (s ∷ spans) ≡ left at spans
  left_skip at s spans before =
      ap (λ (b : Bool). if b then replaced_from new at (drop at text) spans
      else take (s.start - at) (drop at text) ++ new ++ replaced_from new s.end (drop (s.end - at) (drop at text)) spans)
      ((Decides-ltb s.start at).1 before)

  pub left_take : (at : ℕ) (s : Span) (spans : List Span) → at ≤ s.start → s.start ≤ s.end →
      left at (s ∷ spans) ≡ (take (s.start - at) (drop at text) ++ new) ++ left s.end spans
  left_take at s spans up wide =
      ap (λ (b : Bool). if b then replaced_from new at (drop at text) spans
      else take (s.start - at) (drop at text) ++ new ++ replaced_from new s.end (drop (s.end - at) (drop at text)) spans)
      (not_below (nat_lt s.start at) refl)
      ∙ ap (λ (rest : List ℕ). (take (s.start - at) (drop at text) ++ new) ++ replaced_from new s.end rest spans)
      (drop-drop (s.end - at) at text ∙ ap (λ k. drop k text) (let e : at + (s.end - at) ≡ s.end = omega (arith, up, wide) in e))
    where
      not_below : (b : Bool) → nat_lt s.start at ≡ b → b ≡ false
      not_below true is = absurd (let below = (Decides-ltb s.start at).0 is in omega (arith, up, below))
      not_below false is = refl

  -- the text so far and what is left are the whole
  pub record IsSoFar (out : List ℕ) (at : ℕ) (spans all : List Span) : Type 0 where
    pub whole : out ++ left at spans ≡ replaced new text all
    pub within : at ≤ length text

  pub skipped : (out : List ℕ) (at : ℕ) (s : Span) (spans all : List Span) → s.start < at → IsSoFar out at (s ∷ spans) all → IsSoFar out at spans all
  skipped out at s spans all before is = record { whole = ap (λ (rest : List ℕ). out ++ rest) (sym (left_skip at s spans before)) ∙ is.whole; within = is.within }

  joins : (out at_s rest whole : List ℕ) → out ++ (at_s ++ rest) ≡ whole → (out ++ at_s) ++ rest ≡ whole
  joins out at_s rest whole is = append_assoc out at_s rest ∙ is

  pub replaced_one : (out : List ℕ) (at : ℕ) (s : Span) (spans all : List Span) → at ≤ s.start → s.start ≤ s.end → s.end ≤ length text → IsSoFar out at (s ∷ spans) all →
      IsSoFar (out ++ (take (s.start - at) (drop at text) ++ new)) s.end spans all
  replaced_one out at s spans all up wide inside is = record {
    whole = joins out (take (s.start - at) (drop at text) ++ new) (left s.end spans) (replaced new text all)
        (ap (λ (rest : List ℕ). out ++ rest) (sym (left_take at s spans up wide)) ∙ is.whole);
    within = inside;
  }

  -- a piece that is too long makes the whole too long
  pub too_long_at : (most : ℕ) (out : List ℕ) (at : ℕ) (s : Span) (spans all : List Span) → at ≤ s.start → s.start ≤ s.end → IsSoFar out at (s ∷ spans) all →
      most < length out + length (take (s.start - at) (drop at text) ++ new) → most < length (replaced new text all)
  too_long_at most out at s spans all up wide is long =
      let piece : List ℕ = take (s.start - at) (drop at text) ++ new in
      let parts : length (replaced new text all) ≡ length out + (length piece + length (left s.end spans)) =
      ap length (sym is.whole) ∙ ap (λ (rest : List ℕ). length (out ++ rest)) (left_take at s spans up wide) ∙ length-append out (piece ++ left s.end spans)
      ∙ ap (λ n. length out + n) (length-append piece (left s.end spans)) in
      omega (arith, parts, long)

  pub at_end : (out : List ℕ) (at : ℕ) (all : List Span) → IsSoFar out at [] all → out ++ drop at text ≡ replaced new text all
  at_end out at all is = is.whole

  pub too_long_end : (most : ℕ) (out : List ℕ) (at : ℕ) (all : List Span) → IsSoFar out at [] all → most < length out + length (drop at text) →
      most < length (replaced new text all)
  too_long_end most out at all is long =
      let parts : length (replaced new text all) ≡ length out + length (drop at text) = ap length (sym is.whole) ∙ length-append out (drop at text) in
      omega (arith, parts, long)

-- ---- one part more

pub added_short : (old before more new : List ℕ) → IsAdded old before new false → IsAdded old (before ++ more) new false
added_short old before more new (too_long long) = let n = length-append before more in too_long (omega (arith, long, n))

pub added_both : {E : Type 0} (old before mid more new : List ℕ) (r : Result Bool E) → IsAdded old before mid true → IfOk r (IsAdded mid more new) →
    IfOk r (IsAdded old (before ++ more) new)
added_both old before mid more new (Err e) first second = tt
added_both old before mid more new (Ok b) (added same short) (added then_ fits) = added (then_ ∙ ap (λ xs. xs ++ more) same ∙ append_assoc old before more) fits
added_both old before mid more new (Ok b) (added same short) (too_long long) =
    let n = ap length same ∙ length-append old before in
    let m = length-append before more in
    too_long (omega (arith, long, n, m))

module _ (new text : List ℕ) (all : List Span) (i : ℕ) (d : Span) (inside : i < length all) (within : All (IsInText text) all) where
  parts : drop i all ≡ get_or all i d ∷ drop (i + 1) all
  parts = drop_at all i (get_or all i d) (slice_get-get_or all i d inside)

  its : (out : List ℕ) (at : ℕ) → IsSoFar new text out at (drop i all) all → IsSoFar new text out at (get_or all i d ∷ drop (i + 1) all) all
  its out at is = subst (λ (spans : List Span). IsSoFar new text out at spans all) parts is

  pub step_long : (out after : List ℕ) (at : ℕ) → IsSoFar new text out at (drop i all) all → at ≤ (get_or all i d).start →
      IsAdded out (take ((get_or all i d).start - at) (drop at text) ++ new) after false → LONGEST_DOCUMENT < length (replaced new text all)
  step_long out after at is up (too_long long) =
      too_long_at new text LONGEST_DOCUMENT out at (get_or all i d) (drop (i + 1) all) all up (within i d inside).0 (its out at is) long

  pub step_taken : (out after : List ℕ) (at : ℕ) → IsSoFar new text out at (drop i all) all → at ≤ (get_or all i d).start →
      IsAdded out (take ((get_or all i d).start - at) (drop at text) ++ new) after true →
      IsSoFar new text after (get_or all i d).end (drop (i + 1) all) all × (length after ≤ LONGEST_DOCUMENT)
  step_taken out after at is up (added same short) = (
    subst (λ (x : List ℕ). IsSoFar new text x (get_or all i d).end (drop (i + 1) all) all) (sym same)
        (replaced_one new text out at (get_or all i d) (drop (i + 1) all) all up (within i d inside).0 (within i d inside).1 (its out at is)),
    short,
  )

  pub step_skipped : (out : List ℕ) (at : ℕ) → IsSoFar new text out at (drop i all) all → (get_or all i d).start < at → IsSoFar new text out at (drop (i + 1) all) all
  step_skipped out at is before = skipped new text out at (get_or all i d) (drop (i + 1) all) all before (its out at is)

module _ (new text : List ℕ) (all : List Span) (i : ℕ) (past : length all ≤ i) (out : List ℕ) (at : ℕ) (is : IsSoFar new text out at (drop i all) all) where
  last : IsSoFar new text out at [] all
  last = subst (λ (spans : List Span). IsSoFar new text out at spans all) (drop_past all i past) is

  rest : take (length text - at) (drop at text) ≡ drop at text
  rest = let long = length-drop at text in take_past (drop at text) (length text - at) (omega (arith, long))

  pub end_long : (after : List ℕ) → IsAdded out (take (length text - at) (drop at text)) after false → LONGEST_DOCUMENT < length (replaced new text all)
  end_long after (too_long long) = too_long_end new text LONGEST_DOCUMENT out at all last (subst (λ (x : List ℕ). LONGEST_DOCUMENT < length out + length x) rest long)

  pub end_whole : (after : List ℕ) → IsAdded out (take (length text - at) (drop at text)) after true → after ≡ replaced new text all
  end_whole after (added same short) = same ∙ ap (λ (x : List ℕ). out ++ x) rest ∙ at_end new text out at all last
