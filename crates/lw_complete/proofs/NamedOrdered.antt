-- What is kept of a list in order is in order, and what was kept so far.
use Rattle.std.proofs.Common.{◌≡◌, ◌↔◌, ◌<◌, ◌++◌, ◌∷◌, [], ◌⊎◌, inl, inr, List, AllPairs, Contains, get_or, length, sym, ◌∙◌, subst, arith}
use Rattle.std.proofs.lemmas.List.{get_or_append_left, get_or_default, length-append}
use Rattle.std.proofs.lemmas.List.Elements.{Contains-append_left, Contains-push, Contains-push_cases}
use Rattle.std.proofs.lemmas.List.Quantifiers.{all_pairs_push}
use Rattle.std.proofs.Math.Seq.{get_or-append_seam}

module _ {X : Type 0} (R : X → X → Type 0) (xs : List X) (y : X) (all : AllPairs R (xs ++ y ∷ [])) where
  pairs_before : AllPairs R xs
  pairs_before i j d below inside =
      let low : i < length xs = omega (arith, below, inside) in
      let more : j < length (xs ++ y ∷ []) = omega (arith, inside, length-append xs (y ∷ [])) in
      subst (λ (a : X). R a (get_or xs j d)) (get_or_append_left xs (y ∷ []) d i low)
      (subst (λ (b : X). R (get_or (xs ++ y ∷ []) i d) b) (get_or_append_left xs (y ∷ []) d j inside) (all i j d below more))

  pairs_last : (x : X) → Contains xs x → R x y
  pairs_last x (k, inside, is) =
      let more : length xs < length (xs ++ y ∷ []) = omega (arith, length-append xs (y ∷ [])) in
      subst (λ (a : X). R a y) (get_or_append_left xs (y ∷ []) x k inside ∙ is)
      (subst (λ (b : X). R (get_or (xs ++ y ∷ []) k x) b) (get_or-append_seam xs y [] x) (all k (length xs) x inside more))

  pub pairs_more : (ys : List X) → (AllPairs R xs → AllPairs R ys) → ((x : X) → Contains ys x → Contains xs x) → AllPairs R (ys ++ y ∷ [])
  pairs_more ys kept among =
      all_pairs_push R ys y (kept pairs_before)
      (λ k d inside. pairs_last (get_or ys k d) (among (get_or ys k d) (k, inside, get_or_default ys k (get_or ys k d) d inside)))

  pub pairs_pass : (ys : List X) → (AllPairs R xs → AllPairs R ys) → AllPairs R ys
  pairs_pass ys kept = kept pairs_before

module _ {X : Type 0} (xs ys : List X) (y : X) where
  pub among_more : ((x : X) → Contains ys x → Contains xs x) → (x : X) → Contains (ys ++ y ∷ []) x → Contains (xs ++ y ∷ []) x
  among_more among x has = by (Contains-push_cases ys y x has)
    where
      by : Contains ys x ⊎ (y ≡ x) → Contains (xs ++ y ∷ []) x
      by (inl there) = Contains-append_left xs (y ∷ []) x (among x there)
      by (inr same) = subst (Contains (xs ++ y ∷ [])) same (Contains-push xs y)

  pub among_pass : ((x : X) → Contains ys x → Contains xs x) → (x : X) → Contains ys x → Contains (xs ++ y ∷ []) x
  among_pass among x has = Contains-append_left xs (y ∷ []) x (among x has)

  module _ (P : X → Type 0) (exact : (x : X) → Contains ys x ↔ (Contains xs x × P x)) where
    pub kept_more : P y → (x : X) → Contains (ys ++ y ∷ []) x ↔ (Contains (xs ++ y ∷ []) x × P x)
    kept_more is x = (λ has. to (Contains-push_cases ys y x has), λ (has, so). from so (Contains-push_cases xs y x has))
      where
        to : Contains ys x ⊎ (y ≡ x) → Contains (xs ++ y ∷ []) x × P x
        to (inl there) = let both = (exact x).0 there in (Contains-append_left xs (y ∷ []) x both.0, both.1)
        to (inr same) = (subst (Contains (xs ++ y ∷ [])) same (Contains-push xs y), subst P same is)

        from : P x → Contains xs x ⊎ (y ≡ x) → Contains (ys ++ y ∷ []) x
        from so (inl there) = Contains-append_left ys (y ∷ []) x ((exact x).1 (there, so))
        from so (inr same) = subst (Contains (ys ++ y ∷ [])) same (Contains-push ys y)

    pub kept_pass : ¬ P y → (x : X) → Contains ys x ↔ (Contains (xs ++ y ∷ []) x × P x)
    kept_pass not x = (
      λ has. (let both = (exact x).0 has in (Contains-append_left xs (y ∷ []) x both.0, both.1)),
      λ (has, so). from so (Contains-push_cases xs y x has),
    )
      where
        from : P x → Contains xs x ⊎ (y ≡ x) → Contains ys x
        from so (inl there) = (exact x).1 (there, so)
        from so (inr same) = absurd (not (subst P (sym same) so))
