-- A window is printed one place after the other.
use Rattle.std.proofs.Common.{◌≡◌, ℕ, ◌+◌, ◌<◌, List, [], ◌∷◌, ◌++◌, Option, length, take, get_or, refl, sym, ap, ◌∙◌, append_assoc, append-nil}
use Rattle.std.specs.Option.{option_map}
use Rattle.std.specs.Prelude.{codes}
use Rattle.std.proofs.lemmas.List.{take_more}
use Rattle.std.proofs.lemmas.List.Concat.{flat_map-append}
use Rattle.lw_base.specs.declared.numbers.KindId.{KindId}
use Rattle.lw_first.specs.Heads.{seen_in}
use Rattle.lw_lookahead.specs.Printed.{window_text, shown, spaced}

module _ (texts : List (List ℕ)) where
  -- behind the first place each stands behind a space
  pub printed_spaced : (x : Option ℕ) (xs : List (Option ℕ)) → window_text texts (x ∷ xs) ≡ shown texts x ++ spaced texts xs
  printed_spaced x [] = sym (append-nil (shown texts x))
  printed_spaced x (y ∷ xs) =
      ap (λ text. shown texts x ++ (codes " " ++ text)) (printed_spaced y xs) ∙ ap (λ text. shown texts x ++ text) (sym (append_assoc (codes " ") (shown texts y) (spaced texts xs)))

  seen_more : (seen : List (Option KindId)) (x : Option KindId) → seen_in (seen ++ x ∷ []) ≡ seen_in seen ++ option_map (λ kind. kind.0) x ∷ []
  seen_more [] x = refl
  seen_more (y ∷ seen) x = ap (λ xs. option_map (λ (kind : KindId). kind.0) y ∷ xs) (seen_more seen x)

  -- one place more
  pub spaced_more : (seen : List (Option KindId)) (i : ℕ) (d : Option KindId) → i < length seen →
      spaced texts (seen_in (take (i + 1) seen)) ≡ spaced texts (seen_in (take i seen)) ++ (codes " " ++ shown texts (option_map (λ kind. kind.0) (get_or seen i d)))
  spaced_more seen i d inside =
      let next = option_map (λ (kind : KindId). kind.0) (get_or seen i d) in
      ap (λ xs. spaced texts (seen_in xs)) (take_more seen i d inside) ∙ ap (spaced texts) (seen_more (take i seen) (get_or seen i d))
      ∙ flat_map-append (λ x. codes " " ++ shown texts x) (seen_in (take i seen)) (next ∷ [])
      ∙ ap (λ text. spaced texts (seen_in (take i seen)) ++ text) (append-nil (codes " " ++ shown texts next))

  -- one place more behind a text
  pub pushes_more : (old now mid new : List ℕ) (seen : List (Option KindId)) (i : ℕ) (d : Option KindId) → i < length seen →
      now ≡ old ++ spaced texts (seen_in (take i seen)) → mid ≡ now ++ codes " " → new ≡ mid ++ shown texts (option_map (λ kind. kind.0) (get_or seen i d)) →
      new ≡ old ++ spaced texts (seen_in (take (i + 1) seen))
  pushes_more old now mid new seen i d inside before space pushed =
      let done = spaced texts (seen_in (take i seen)) in
      let next = shown texts (option_map (λ (kind : KindId). kind.0) (get_or seen i d)) in
      pushed ∙ ap (λ text. text ++ next) (space ∙ ap (λ text. text ++ codes " ") before) ∙ append_assoc (old ++ done) (codes " ") next
      ∙ append_assoc old done (codes " " ++ next) ∙ ap (λ text. old ++ text) (sym (spaced_more seen i d inside))
