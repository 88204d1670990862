-- What a look at a place of a slice gives, and the spans of one document put together.
use Rattle.std.proofs.Common.{◌≡◌, ℕ, List, [], ◌∷◌, ◌++◌, Option, Some, None, Result, Ok, Err, IfOk, Contains, AllPairs, slice_get, length, map, drop, ◌+◌, append_assoc, refl, sym, ap, ap₂, ◌∙◌, subst, inl, inr}
use Rattle.std.specs.Prelude.{◌⊎◌, ◌↔◌}
use Rattle.std.specs.Option.{option_map}
use Rattle.std.specs.Slice.{IsItemAt}
use Rattle.std.proofs.lemmas.List.{append-nil}
use Rattle.std.proofs.lemmas.List.Elements.{Contains-append_left, Contains-push, Contains-push_cases}
use Rattle.std.proofs.lemmas.Option.{same_Some, none-some, slice_get_past, slice_get_read}
use denote.Ref.{Bor}
use Rattle.lw_base.specs.declared.token.Span.{Span}
use Rattle.lw_index.specs.declared.parts.Target.{Target}
use Rattle.lw_query.specs.Built.{tree_seen}
use Rattle.lw_query.specs.declared.view.View.{View}
use Rattle.lw_tree.specs.Parts.{Parts}
use Rattle.lw_rename.specs.SpansOf.{AreSpansOf, IsSpanTo, IsUseSpan, SpanPrecedes, declared, file_of, files_over, key_at, keyed_span, keys_named, name_span, used}
use Rattle.lw_rename.specs.declared.files.FileSpans.{FileSpans}
use Rattle.lw_rename.specs.declared.mentions.SpanKey.{SpanKey}
use Rattle.lw_rename.proofs.Listing.{among_mapped, at_place_of, drop_at, is_among, mapped_from}

pub got : {X : Type 0} (xs : List X) (i : ℕ) (r : Option (Bor X)) → IsItemAt xs i r → option_map (λ b. b.now) r ≡ slice_get xs i
got xs i None h = sym (slice_get_past xs i h.3)
got xs i (Some b) h = sym (slice_get_read xs (length xs) i b.now refl h.3.0 h.1)

-- ---- the spans of one document

module _ (target : Target) (v : View) (tree : Parts) (seen : tree_seen v ≡ Some tree) (found : List SpanKey)
    (uses : (k : SpanKey) → Contains found k ↔ IsUseSpan tree v.answers.now target (keyed_span k)) where
  abbrev pub AreAll : List SpanKey → Type 0
  AreAll keys = (s : Span) → Contains (map keyed_span keys) s ↔ IsSpanTo target v s

  -- what is known of the tree of the document is known of this one
  here_used : (s : Span) → IsSpanTo target v s → IsUseSpan tree v.answers.now target s ⊎ (name_span v tree target ≡ Some s)
  here_used s (used {tree = t} at is) = let same = same_Some t tree (sym at ∙ seen) in inl (subst (λ (x : Parts). IsUseSpan x v.answers.now target s) same is)
  here_used s (declared {tree = t} at is) = let same = same_Some t tree (sym at ∙ seen) in inr (subst (λ (x : Parts). name_span v x target ≡ Some s) same is)

  used_among : (keys : List SpanKey) → ((k : SpanKey) → Contains found k → Contains keys k) → (s : Span) → IsUseSpan tree v.answers.now target s →
      Contains (map keyed_span keys) s
  used_among keys more s is = among_mapped keyed_span keys (record { start = s.start; end = s.end }) (more (record { start = s.start; end = s.end }) ((uses (record { start = s.start; end = s.end })).1 is))

  pub all_without : (keys : List SpanKey) → keys ≡ found → name_span v tree target ≡ None → AreAll keys
  all_without keys same none s = (to, from)
    where
      to : Contains (map keyed_span keys) s → IsSpanTo target v s
      to has =
          let (i, at) = at_place_of (map keyed_span keys) s has in
          let (k, there, is) = mapped_from keyed_span keys i s at in
          used seen (subst (IsUseSpan tree v.answers.now target) is ((uses k).0 (subst (λ (x : List SpanKey). Contains x k) same (is_among keys i k there))))

      by : IsUseSpan tree v.answers.now target s ⊎ (name_span v tree target ≡ Some s) → Contains (map keyed_span keys) s
      by (inl is) = used_among keys (λ k has. subst (λ (x : List SpanKey). Contains x k) (sym same) has) s is
      by (inr named) = absurd (none-some s (sym none ∙ named))

      from : IsSpanTo target v s → Contains (map keyed_span keys) s
      from is = by (here_used s is)

  pub all_with : (keys : List SpanKey) (key : SpanKey) (span : Span) → keys ≡ found ++ key ∷ [] → keyed_span key ≡ span → name_span v tree target ≡ Some span → AreAll keys
  all_with keys key span same is_span name s = (to, from)
    where
      of_key : (k : SpanKey) → keyed_span k ≡ s → Contains found k ⊎ (key ≡ k) → IsSpanTo target v s
      of_key k is (inl old) = used seen (subst (IsUseSpan tree v.answers.now target) is ((uses k).0 old))
      of_key k is (inr one) = declared seen (name ∙ ap Some (sym is_span ∙ ap keyed_span one ∙ is))

      to : Contains (map keyed_span keys) s → IsSpanTo target v s
      to has =
          let (i, at) = at_place_of (map keyed_span keys) s has in
          let (k, there, is) = mapped_from keyed_span keys i s at in
          of_key k is (Contains-push_cases found key k (subst (λ (x : List SpanKey). Contains x k) same (is_among keys i k there)))

      by : IsUseSpan tree v.answers.now target s ⊎ (name_span v tree target ≡ Some s) → Contains (map keyed_span keys) s
      by (inl is) = used_among keys (λ k has. subst (λ (x : List SpanKey). Contains x k) (sym same) (Contains-append_left found (key ∷ []) k has)) s is
      by (inr named) =
          let at : span ≡ s = same_Some span s (sym name ∙ named) in
          subst (Contains (map keyed_span keys)) (is_span ∙ at)
          (among_mapped keyed_span keys key (subst (λ (x : List SpanKey). Contains x key) (sym same) (Contains-push found key)))

      from : IsSpanTo target v s → Contains (map keyed_span keys) s
      from is = by (here_used s is)

  pub all_named : (keys : List SpanKey) (name : Option Span) → keys ≡ found ++ keys_named name → name ≡ name_span v tree target → AreAll keys
  all_named keys None same name = all_without keys (same ∙ append-nil found) (sym name)
  all_named keys (Some span) same name = all_with keys (key_at span) span same refl (sym name)

  pub in_all : {E : Type 0} (keys : List SpanKey) (r : Result (List Span) E) → AreAll keys → IfOk r (λ spans. (s : Span) → Contains spans s ↔ Contains (map keyed_span keys) s) →
      IfOk r (AllPairs SpanPrecedes) → IfOk r (AreSpansOf target v)
  in_all keys (Err e) all exact ordered = tt
  in_all keys (Ok spans) all exact ordered = record {
    exact = λ s. (λ has. (all s).0 ((exact s).0 has), λ is. (exact s).1 ((all s).1 is));
    ordered = ordered;
  }

-- ---- one file more

pub filed_more : (views : List View) (spans : List (List Span)) (i : ℕ) (v : View) (s : List Span) (files all more : List FileSpans) → slice_get views i ≡ Some v →
    slice_get spans i ≡ Some s → files ++ files_over (drop i views) (drop i spans) ≡ all → more ≡ files ++ file_of v s →
    more ++ files_over (drop (i + 1) views) (drop (i + 1) spans) ≡ all
filed_more views spans i v s files all more at there is same =
    ap (λ (x : List FileSpans). x ++ files_over (drop (i + 1) views) (drop (i + 1) spans)) same
    ∙ append_assoc files (file_of v s) (files_over (drop (i + 1) views) (drop (i + 1) spans))
    ∙ ap₂ (λ (x : List View) (y : List (List Span)). files ++ files_over x y) (sym (drop_at views i v at)) (sym (drop_at spans i s there)) ∙ is

pub filed_one : (v : View) (s : List Span) (file : FileSpans) → (s ≡ [] → ⊥) → file.uri ≡ v.uri.now → file.spans ≡ s → file ∷ [] ≡ file_of v s
filed_one v [] file filled uri list = absurd (filled refl)
filed_one v (t ∷ s) file filled uri list = λ i. record { uri = uri i; spans = list i } ∷ []
