-- What is put behind a list, item by item of another.
use Rattle.std.proofs.Common.{◌≡◌, ℕ, ◌+◌, ◌<◌, List, [], ◌∷◌, ◌++◌, length, get_or, take, map, sym, ap, ◌∙◌}
use Rattle.std.specs.List.{flat_map}
use Rattle.std.proofs.lemmas.List.{flat_map_more, take_more}
use Rattle.std.proofs.lemmas.List.Folds.{flat_map-map}

module _ {X A : Type 0} (old new : List A) where
  -- of items that are read as others
  pub put_all : {Z : Type 0} (f : Z → List A) (read : X → Z) (xs ys : List X) (zs : List Z) → xs ≡ ys → map read ys ≡ zs →
      new ≡ old ++ flat_map (λ x. f (read x)) xs → new ≡ old ++ flat_map f zs
  put_all f read xs ys zs same is put =
      put ∙ ap (λ more. old ++ more) (sym (flat_map-map f read xs) ∙ ap (λ l. flat_map f (map read l)) same ∙ ap (flat_map f) is)

  -- of one item more
  pub put_more : (f : X → List A) (middle : List A) (xs : List X) (i : ℕ) (x : X) → i < length xs → x ≡ get_or xs i x → middle ≡ old ++ flat_map f (take i xs) →
      new ≡ middle ++ f x → new ≡ old ++ flat_map f (take (i + 1) xs)
  put_more f middle xs i x inside is before now =
      now ∙ ap (λ l. l ++ f x) before ∙ flat_map_more f old (take i xs) x ∙ ap (λ y. old ++ flat_map f (take i xs ++ y ∷ [])) is
      ∙ ap (λ l. old ++ flat_map f l) (sym (take_more xs i x inside))
