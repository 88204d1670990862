-- The texts once the mentions are replaced, document by document.
use Rattle.std.proofs.Common.{◌≡◌, ◌≢◌, ℕ, Bool, cond, List, [], ◌∷◌, ◌++◌, Some, None, slice_get, map, filter, refl, ap, ap₂, ◌∙◌}
use Rattle.std.specs.Option.{option_map}
use Rattle.std.specs.Str.{bytes_eq}
use Rattle.std.proofs.lemmas.List.{map-append, append-nil}
use Rattle.std.proofs.lemmas.List.Elements.{filter-append}
use Rattle.std.proofs.lemmas.Option.{same_Some, none-some}
use Rattle.lw_base.specs.declared.token.Span.{Span}
use Rattle.lw_places.specs.Mentions.{Mention}
use Rattle.lw_query.specs.Built.{texts_seen}
use Rattle.lw_query.specs.declared.view.View.{View}
use Rattle.lw_places.specs.Replacing.{renamed_texts, replaced, spans_at}
use Rattle.lw_rename.specs.Grouped.{mention_at, mentions_at}
use Rattle.lw_rename.specs.SpansOf.{mentions_over}
use Rattle.lw_rename.specs.Rereading.{text_after}
use Rattle.lw_rename.proofs.Once.{NoneAt, OnceAt, behind, eq_false, eq_true, here, more, no_text_at, text_at}

module _ (address : List ℕ) where
  spans_joined : (ms ns : List Mention) → spans_at address (ms ++ ns) ≡ spans_at address ms ++ spans_at address ns
  spans_joined ms ns =
      ap (map (λ (m : Mention). m.span)) (filter-append (λ m. bytes_eq m.address address) ms ns)
      ∙ map-append (λ (m : Mention). m.span) (filter (λ m. bytes_eq m.address address) ms) (filter (λ m. bytes_eq m.address address) ns)

  own_spans : (a : List ℕ) (s : List Span) → a ≡ address → spans_at address (mentions_at a s) ≡ s
  own_spans a [] same = refl
  own_spans a (t ∷ s) same =
      ap (λ (b : Bool). map (λ (m : Mention). m.span)
      (cond b (mention_at a t ∷ filter (λ m. bytes_eq m.address address) (mentions_at a s)) (filter (λ m. bytes_eq m.address address) (mentions_at a s))))
      (eq_true a address same)
      ∙ ap (λ (rest : List Span). t ∷ rest) (own_spans a s same)

  other_spans : (a : List ℕ) (s : List Span) → a ≢ address → spans_at address (mentions_at a s) ≡ []
  other_spans a [] apart = refl
  other_spans a (t ∷ s) apart =
      ap (λ (b : Bool). map (λ (m : Mention). m.span)
      (cond b (mention_at a t ∷ filter (λ m. bytes_eq m.address address) (mentions_at a s)) (filter (λ m. bytes_eq m.address address) (mentions_at a s))))
      (eq_false a address apart)
      ∙ other_spans a s apart

  no_spans : (views : List View) (spans : List (List Span)) → NoneAt address views → spans_at address (mentions_over views spans) ≡ []
  no_spans [] spans _ = refl
  no_spans (v ∷ views) [] _ = refl
  no_spans (v ∷ views) (s ∷ spans) (more apart rest) =
      spans_joined (mentions_at v.uri.now s) (mentions_over views spans) ∙ ap₂ (λ (a b : List Span). a ++ b) (other_spans v.uri.now s apart) (no_spans views spans rest)

  its_spans : (views : List View) (spans : List (List Span)) (k : ℕ) (v : View) (s : List Span) → OnceAt address views k v → slice_get spans k ≡ Some s →
      spans_at address (mentions_over views spans) ≡ s
  its_spans _ [] k v s is at = absurd (none-some s at)
  its_spans _ (x ∷ spans) _ v s (here {views = views} same rest) at =
      spans_joined (mentions_at v.uri.now x) (mentions_over views spans)
      ∙ ap₂ (λ (a b : List Span). a ++ b) (own_spans v.uri.now x same) (no_spans views spans rest) ∙ append-nil x ∙ same_Some x s at
  its_spans _ (x ∷ spans) _ v s (behind {w = w} {views = views} {k = k} apart rest) at =
      spans_joined (mentions_at w.uri.now x) (mentions_over views spans)
      ∙ ap₂ (λ (a b : List Span). a ++ b) (other_spans w.uri.now x apart) (its_spans views spans k v s rest at)

  module _ (new : List ℕ) (views : List View) (spans : List (List Span)) where
    pub after_at : (k : ℕ) (v : View) (s : List Span) → OnceAt address views k v → slice_get spans k ≡ Some s →
        renamed_texts new (mentions_over views spans) (texts_seen views) address ≡ Some (text_after new v s)
    after_at k v s is at =
        ap (option_map (λ (text : List ℕ). replaced new text (spans_at address (mentions_over views spans)))) (text_at address views k v is)
        ∙ ap (λ (found : List Span). Some (replaced new v.text.now found)) (its_spans views spans k v s is at)

    pub none_after : NoneAt address views → renamed_texts new (mentions_over views spans) (texts_seen views) address ≡ None
    none_after is = ap (option_map (λ (text : List ℕ). replaced new text (spans_at address (mentions_over views spans)))) (no_text_at address views is)
