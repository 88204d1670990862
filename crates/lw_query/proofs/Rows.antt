-- Lists by their places.
use Rattle.std.proofs.Common.{ℕ, zero, suc, ◌≡◌, List, [], ◌∷◌, Some, None, Contains, All, map, slice_get, refl, ap, subst, ◌∙◌}
use Rattle.std.specs.List.{AllByRecursion, AllZip}
use Rattle.std.proofs.lemmas.List.Elements.{All-cons, All-head, All-nil, All-tail}
use Rattle.std.proofs.lemmas.Option.{get_or_from_slice_get, same_Some, slice_get-get_or, slice_get_within}

pub differ : {A : Type 0} {x : A} → None ≡ Some x → ⊥
differ e = cc

nothing_at : {X : Type 0} (i : ℕ) {x : X} → slice_get [] i ≡ Some x → ⊥
nothing_at zero is = cc
nothing_at (suc i) is = cc

-- what stands beside an item
pub beside : {X Y : Type 0} (R : X → Y → Type 0) (xs : List X) (ys : List Y) → AllZip R xs ys → (i : ℕ) (x : X) → slice_get xs i ≡ Some x →
    (y : Y) × (slice_get ys i ≡ Some y) × R x y
beside R [] ys all i x at = absurd (nothing_at i at)
beside R (x ∷ xs) [] all i z at = absurd all
beside R (x ∷ xs) (y ∷ ys) all zero z at = (y, refl, subst (λ w. R w y) (same_Some x z at) all.0)
beside R (x ∷ xs) (y ∷ ys) all (suc i) z at = beside R xs ys all.1 i z at

pub beside_back : {X Y : Type 0} (R : X → Y → Type 0) (xs : List X) (ys : List Y) → AllZip R xs ys → (i : ℕ) (y : Y) → slice_get ys i ≡ Some y →
    (x : X) × (slice_get xs i ≡ Some x) × R x y
beside_back R xs [] all i y at = absurd (nothing_at i at)
beside_back R [] (y ∷ ys) all i z at = absurd all
beside_back R (x ∷ xs) (y ∷ ys) all zero z at = (x, refl, subst (λ w. R x w) (same_Some y z at) all.0)
beside_back R (x ∷ xs) (y ∷ ys) all (suc i) z at = beside_back R xs ys all.1 i z at

pub contains_at : {X : Type 0} (xs : List X) (i : ℕ) (x : X) → slice_get xs i ≡ Some x → Contains xs x
contains_at xs i x at = (i, slice_get_within xs i x at, get_or_from_slice_get xs i x x at)

pub at_of : {X : Type 0} (xs : List X) (x : X) → Contains xs x → (i : ℕ) × (slice_get xs i ≡ Some x)
at_of xs x (i, inside, is) = (i, slice_get-get_or xs i x inside ∙ ap Some is)

-- ---- a list and its image

pub in_image : {X Y : Type 0} (f : X → Y) (xs : List X) (x : X) → Contains xs x → Contains (map f xs) (f x)
in_image {X = X} {Y = Y} f xs x has = let (i, at) = at_of xs x has in contains_at (map f xs) i (f x) (image_at xs i at)
  where
    image_at : (ys : List X) (k : ℕ) → slice_get ys k ≡ Some x → slice_get (map f ys) k ≡ Some (f x)
    image_at [] k at = absurd (nothing_at k at)
    image_at (y ∷ ys) zero at = ap (λ z. Some (f z)) (same_Some y x at)
    image_at (y ∷ ys) (suc k) at = image_at ys k at

pub of_image : {X Y : Type 0} (f : X → Y) (xs : List X) (y : Y) → Contains (map f xs) y → (x : X) × Contains xs x × (f x ≡ y)
of_image {X = X} f xs y has =
    let (i, at) = at_of (map f xs) y has in let (x, there, is) = source xs i at in (x, contains_at xs i x there, is)
  where
    source : (zs : List X) (k : ℕ) → slice_get (map f zs) k ≡ Some y → (x : X) × (slice_get zs k ≡ Some x) × (f x ≡ y)
    source [] k at = absurd (nothing_at k at)
    source (z ∷ zs) zero at = (z, refl, same_Some (f z) y at)
    source (z ∷ zs) (suc k) at = source zs k at

pub zip_images : {X Y Z : Type 0} (R : Y → Z → Type 0) (f : X → Y) (g : X → Z) (P : X → Type 0) → ((x : X) → P x → R (f x) (g x)) → (xs : List X) → All P xs →
    AllZip R (map f xs) (map g xs)
zip_images R f g P related [] all = tt
zip_images R f g P related (x ∷ xs) all = (related x (All-head P x xs all), zip_images R f g P related xs (All-tail P x xs all))

pub all_both : {X : Type 0} (P Q S : X → Type 0) → ((x : X) → P x → Q x → S x) → (xs : List X) → AllByRecursion P xs → All Q xs → All S xs
all_both P Q S joined [] one other = All-nil S
all_both P Q S joined (x ∷ xs) one other =
    All-cons S x xs (joined x one.0 (All-head Q x xs other)) (all_both P Q S joined xs one.1 (All-tail Q x xs other))
