-- What is replaced, document by document, stands for the mentions.
use Rattle.std.proofs.Common.{◌≡◌, ◌≢◌, ℕ, suc, zero, List, [], ◌∷◌, ◌++◌, Some, Contains, All, AllPairs, slice_get, refl, sym, ap, ap₂, ◌∙◌, subst₂, arith, inl, inr}
use Rattle.std.specs.Cmp.Lexicographic.{slice_cmp}
use Rattle.std.specs.Ordering.{nat_cmp}
use Rattle.std.specs.declared.cmp.Ordering.TheVariants.{Less}
use Rattle.std.proofs.lemmas.Grind.{flat_map-append}
use Rattle.std.proofs.lemmas.List.{append-nil}
use Rattle.std.proofs.lemmas.List.Elements.{All-append, All-cons, All-nil, Contains-append_cases}
use Rattle.std.proofs.lemmas.Option.{same_Some, none-some}
use Rattle.lw_base.specs.declared.token.Span.{Span}
use Rattle.lw_query.specs.declared.view.View.{View}
use Rattle.lw_rename.specs.Grouped.{AreGrouped, mentions_at, mentions_in}
use Rattle.lw_rename.specs.SpansOf.{file_of, files_over, mentions_over}
use Rattle.lw_rename.specs.declared.files.FileSpans.{FileSpans}
use Rattle.lw_rename.proofs.Listing.{all_at, at_place_of, pairs_head, pairs_join, pairs_none, pairs_tail}

joined_one : (v : View) (s : List Span) → mentions_in (file_of v s) ≡ mentions_at v.uri.now s
joined_one v [] = refl
joined_one v (t ∷ s) = append-nil (mentions_at v.uri.now (t ∷ s))

joined : (views : List View) (spans : List (List Span)) → mentions_in (files_over views spans) ≡ mentions_over views spans
joined [] spans = refl
joined (v ∷ views) [] = refl
joined (v ∷ views) (s ∷ spans) =
    flat_map-append (λ (f : FileSpans). mentions_at f.uri f.spans) (file_of v s) (files_over views spans)
    ∙ ap₂ (λ a b. a ++ b) (joined_one v s) (joined views spans)

filled_one : (v : View) (s : List Span) → All (λ f. f.spans ≢ []) (file_of v s)
filled_one v [] = All-nil (λ (f : FileSpans). f.spans ≢ [])
filled_one v (t ∷ s) = All-cons (λ (f : FileSpans). f.spans ≢ []) _ [] (λ same. not_both same) (All-nil (λ (f : FileSpans). f.spans ≢ []))
  where
    not_both : t ∷ s ≡ [] → ⊥
    not_both same = cc

filled : (views : List View) (spans : List (List Span)) → All (λ f. f.spans ≢ []) (files_over views spans)
filled [] spans = All-nil (λ (f : FileSpans). f.spans ≢ [])
filled (v ∷ views) [] = All-nil (λ (f : FileSpans). f.spans ≢ [])
filled (v ∷ views) (s ∷ spans) = All-append (λ (f : FileSpans). f.spans ≢ []) (file_of v s) (files_over views spans) (filled_one v s) (filled views spans)

in_one : (v : View) (s : List Span) (f : FileSpans) → Contains (file_of v s) f → f.uri ≡ v.uri.now
in_one v [] f (k, inside, is) = absurd (omega (arith, inside))
in_one v (t ∷ s) f has = let (k, at) = at_place_of (file_of v (t ∷ s)) f has in by k at
  where
    by : (k : ℕ) → slice_get (file_of v (t ∷ s)) k ≡ Some f → f.uri ≡ v.uri.now
    by zero at = ap (λ (x : FileSpans). x.uri) (sym (same_Some _ f at))
    by (suc k) at = absurd (none-some f at)

file_from : (views : List View) (spans : List (List Span)) (f : FileSpans) → Contains (files_over views spans) f → (k : ℕ) × (v : View) × (slice_get views k ≡ Some v) × (f.uri ≡ v.uri.now)
file_from [] spans f (k, inside, is) = absurd (omega (arith, inside))
file_from (v ∷ views) [] f (k, inside, is) = absurd (omega (arith, inside))
file_from (v ∷ views) (s ∷ spans) f has = elim (Contains-append_cases (file_of v s) (files_over views spans) f has) [
  | inl own ↦ (0, v, refl, in_one v s f own)
  | inr rest ↦ let (k, w, at, same) = file_from views spans f rest in (suc k, w, at, same)
]

abbrev Before : View → View → Type 0
Before v w = slice_cmp nat_cmp v.uri.now w.uri.now ≡ Less

abbrev Comes : FileSpans → FileSpans → Type 0
Comes f other = slice_cmp nat_cmp f.uri other.uri ≡ Less

ascending_one : (v : View) (s : List Span) → AllPairs Comes (file_of v s)
ascending_one v [] = pairs_none Comes
ascending_one v (t ∷ s) = λ i j d before inside. absurd (omega (arith, before, inside))

ascending : (views : List View) (spans : List (List Span)) → AllPairs (λ v w. slice_cmp nat_cmp v.uri.now w.uri.now ≡ Less) views → AllPairs Comes (files_over views spans)
ascending [] spans up = pairs_none Comes
ascending (v ∷ views) [] up = pairs_none Comes
ascending (v ∷ views) (s ∷ spans) up =
    pairs_join Comes (file_of v s) (files_over views spans) (ascending_one v s) (ascending views spans (pairs_tail Before v views up)) across
  where
    across : (f h : FileSpans) → Contains (file_of v s) f → Contains (files_over views spans) h → Comes f h
    across f h has among =
        let (k, w, at, same) = file_from views spans h among in
        subst₂ (λ (a b : List ℕ). slice_cmp nat_cmp a b ≡ Less) (sym (in_one v s f has)) (sym same) (all_at (Before v) views k w (pairs_head Before v views up) at)

pub grouped : (views : List View) (spans : List (List Span)) → AllPairs (λ v w. slice_cmp nat_cmp v.uri.now w.uri.now ≡ Less) views →
    AreGrouped (mentions_over views spans) (files_over views spans)
grouped views spans up = record { joined = joined views spans; filled = filled views spans; ascending = ascending views spans up }
