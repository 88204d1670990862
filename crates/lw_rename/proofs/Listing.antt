-- Lists by their places, side by side, and in order.
use Rattle.std.proofs.Common.{◌≡◌, ℕ, ◌<◌, ◌≤◌, ◌+◌, suc, zero, Bool, true, false, List, [], ◌∷◌, ◌++◌, Some, Contains, All, AllPairs, slice_get, length, get_or, map, take, drop, refl, sym, ap, ap₂, ◌∙◌, subst, subst₂, arith, inl, inr}
use Rattle.std.specs.List.{AllZip}
use Rattle.std.proofs.lemmas.Bool.{cases_lt}
use Rattle.std.proofs.lemmas.List.Elements.{All-append, All-contains, All-weaker, All-map}
use Rattle.std.proofs.lemmas.List.Kept.{AllPairs-cons}
use Rattle.std.proofs.lemmas.Option.{same_Some, none-some, slice_get-get_or, slice_get_within, get_or_from_slice_get}

pub not_both : {b : Bool} → b ≡ true → b ≡ false → ⊥
not_both is not = apart (sym is ∙ not)
  where
    apart : true ≡ false → ⊥
    apart e = cc

-- ---- by places

pub at_place_of : {X : Type 0} (xs : List X) (x : X) → Contains xs x → (k : ℕ) × (slice_get xs k ≡ Some x)
at_place_of xs x (k, inside, is) = (k, slice_get-get_or xs k x inside ∙ ap Some is)

pub is_among : {X : Type 0} (xs : List X) (k : ℕ) (x : X) → slice_get xs k ≡ Some x → Contains xs x
is_among xs k x at = (k, slice_get_within xs k x at, get_or_from_slice_get xs k x x at)

pub one_at : {X : Type 0} (xs : List X) (k : ℕ) (x y : X) → slice_get xs k ≡ Some x → slice_get xs k ≡ Some y → x ≡ y
one_at xs k x y at there = same_Some x y (sym at ∙ there)

pub all_at : {X : Type 0} (P : X → Type 0) (xs : List X) (k : ℕ) (x : X) → All P xs → slice_get xs k ≡ Some x → P x
all_at P xs k x all at = All-contains P xs x all (is_among xs k x at)

pub pair_at : {X : Type 0} (R : X → X → Type 0) (xs : List X) (i j : ℕ) (x y : X) → AllPairs R xs → i < j → slice_get xs i ≡ Some x → slice_get xs j ≡ Some y → R x y
pair_at R xs i j x y all before at there =
    subst₂ R (get_or_from_slice_get xs i x x at) (get_or_from_slice_get xs j y x there) (all i j x before (slice_get_within xs j y there))

-- a list of nothing
pub is_empty_list : {X : Type 0} (xs : List X) → ((x : X) → Contains xs x → ⊥) → xs ≡ []
is_empty_list [] none = refl
is_empty_list (x ∷ xs) none = absurd (none x (is_among (x ∷ xs) 0 x refl))

pub not_empty_list : {X : Type 0} (xs : List X) (x : X) → Contains xs x → xs ≡ [] → ⊥
not_empty_list xs x (k, inside, is) empty = let none : length xs ≡ 0 = ap length empty in omega (arith, none, inside)

-- ---- side by side

pub zip_left : {X Y : Type 0} (Q : X → Y → Type 0) (xs : List X) (ys : List Y) (k : ℕ) (x : X) → AllZip Q xs ys → slice_get xs k ≡ Some x →
    (y : Y) × (slice_get ys k ≡ Some y) × Q x y
zip_left Q [] ys k x all at = absurd (none-some x at)
zip_left Q (a ∷ xs) [] k x all at = absurd all
zip_left Q (a ∷ xs) (b ∷ ys) zero x all at = (b, refl, subst (λ z. Q z b) (same_Some a x at) all.0)
zip_left Q (a ∷ xs) (b ∷ ys) (suc k) x all at = zip_left Q xs ys k x all.1 at

pub zip_at : {X Y : Type 0} (Q : X → Y → Type 0) (xs : List X) (ys : List Y) (k : ℕ) (x : X) (y : Y) → AllZip Q xs ys → slice_get xs k ≡ Some x → slice_get ys k ≡ Some y →
    Q x y
zip_at Q xs ys k x y all at there = let (z, here, is) = zip_left Q xs ys k x all at in subst (Q x) (one_at ys k z y here there) is

pub zip_long : {X Y : Type 0} (Q : X → Y → Type 0) (xs : List X) (ys : List Y) → AllZip Q xs ys → length ys ≡ length xs
zip_long Q [] [] all = refl
zip_long Q [] (y ∷ ys) all = absurd all
zip_long Q (x ∷ xs) [] all = absurd all
zip_long Q (x ∷ xs) (y ∷ ys) all = let rest = zip_long Q xs ys all.1 in omega (arith, rest)

-- what holds of the one holds of what is made of it
pub zip_mapped : {X Y Z : Type 0} (Q : X → Y → Type 0) (P : X → Z → Type 0) (f : Y → Z) → ((x : X) (y : Y) → Q x y → P x (f y)) → (xs : List X) (ys : List Y) →
    AllZip Q xs ys → AllZip P xs (map f ys)
zip_mapped Q P f so [] [] all = tt
zip_mapped Q P f so [] (y ∷ ys) all = absurd all
zip_mapped Q P f so (x ∷ xs) [] all = absurd all
zip_mapped Q P f so (x ∷ xs) (y ∷ ys) all = (so x y all.0, zip_mapped Q P f so xs ys all.1)

-- ---- in order

pub pairs_head : {X : Type 0} (R : X → X → Type 0) (x : X) (xs : List X) → AllPairs R (x ∷ xs) → All (R x) xs
pairs_head R x xs all k d inside = all 0 (suc k) d (omega arith) (omega (arith, inside))

pub pairs_tail : {X : Type 0} (R : X → X → Type 0) (x : X) (xs : List X) → AllPairs R (x ∷ xs) → AllPairs R xs
pairs_tail R x xs all i j d before inside = all (suc i) (suc j) d (omega (arith, before)) (omega (arith, inside))

pub pairs_none : {X : Type 0} (R : X → X → Type 0) → AllPairs R []
pairs_none R i j d before inside = absurd (omega (arith, inside))

pub pairs_join : {X : Type 0} (R : X → X → Type 0) (xs ys : List X) → AllPairs R xs → AllPairs R ys → ((x y : X) → Contains xs x → Contains ys y → R x y) → AllPairs R (xs ++ ys)
pairs_join R [] ys one other across = other
pairs_join R (x ∷ xs) ys one other across =
    AllPairs-cons R x (xs ++ ys)
    (All-append (R x) xs ys (pairs_head R x xs one) (λ k d inside. across x (get_or ys k d) (is_among (x ∷ xs) 0 x refl) (k, inside, get_or_self ys k d inside)))
    (pairs_join R xs ys (pairs_tail R x xs one) other (λ y z has. across y z (behind x xs y has)))
  where
    get_or_self : {X : Type 0} (xs : List X) (k : ℕ) (d : X) → k < length xs → get_or xs k (get_or xs k d) ≡ get_or xs k d
    get_or_self xs k d inside = get_or_from_slice_get xs k (get_or xs k d) (get_or xs k d) (slice_get-get_or xs k d inside)

    behind : {X : Type 0} (x : X) (xs : List X) (y : X) → Contains xs y → Contains (x ∷ xs) y
    behind x xs y has = let (k, at) = at_place_of xs y has in is_among (x ∷ xs) (suc k) y at

pub pairs_map : {X Y : Type 0} (R : X → X → Type 0) (P : Y → Y → Type 0) (f : X → Y) → ((x y : X) → R x y → P (f x) (f y)) → (xs : List X) → AllPairs R xs → AllPairs P (map f xs)
pairs_map R P f so [] all = pairs_none P
pairs_map R P f so (x ∷ xs) all =
    AllPairs-cons P (f x) (map f xs) (All-map (P (f x)) f xs (All-weaker (R x) (λ y. P (f x) (f y)) (λ y. so x y) xs (pairs_head R x xs all))) (pairs_map R P f so xs (pairs_tail R x xs all))

-- ---- what is made of each

pub mapped_from : {X Y : Type 0} (f : X → Y) (xs : List X) (k : ℕ) (y : Y) → slice_get (map f xs) k ≡ Some y → (x : X) × (slice_get xs k ≡ Some x) × (f x ≡ y)
mapped_from f [] k y at = absurd (none-some y at)
mapped_from f (x ∷ xs) zero y at = (x, refl, same_Some (f x) y at)
mapped_from f (x ∷ xs) (suc k) y at = mapped_from f xs k y at

pub mapped_at : {X Y : Type 0} (f : X → Y) (xs : List X) (k : ℕ) (x : X) → slice_get xs k ≡ Some x → slice_get (map f xs) k ≡ Some (f x)
mapped_at f [] k x at = absurd (none-some x at)
mapped_at f (y ∷ xs) zero x at = ap (λ z. Some (f z)) (same_Some y x at)
mapped_at f (y ∷ xs) (suc k) x at = mapped_at f xs k x at

pub among_mapped : {X Y : Type 0} (f : X → Y) (xs : List X) (x : X) → Contains xs x → Contains (map f xs) (f x)
among_mapped f xs x has = let (k, at) = at_place_of xs x has in is_among (map f xs) k (f x) (mapped_at f xs k x at)

-- ---- one more of a list that is gone through

pub drop_at : {X : Type 0} (xs : List X) (i : ℕ) (x : X) → slice_get xs i ≡ Some x → drop i xs ≡ x ∷ drop (i + 1) xs
drop_at [] i x at = absurd (none-some x at)
drop_at (y ∷ xs) zero x at = ap (λ z. z ∷ xs) (same_Some y x at)
drop_at (y ∷ xs) (suc i) x at = drop_at xs i x at ∙ ap (λ k. x ∷ drop k (y ∷ xs)) (let e : suc (i + 1) ≡ suc i + 1 = omega arith in e)

pub take_at : {X : Type 0} (xs : List X) (i : ℕ) (x : X) → slice_get xs i ≡ Some x → take (i + 1) xs ≡ take i xs ++ x ∷ []
take_at [] i x at = absurd (none-some x at)
take_at (y ∷ xs) zero x at = ap (λ z. z ∷ []) (same_Some y x at)
take_at (y ∷ xs) (suc i) x at = ap (λ k. take k (y ∷ xs)) (let e : suc i + 1 ≡ suc (i + 1) = omega arith in e) ∙ ap (λ zs. y ∷ zs) (take_at xs i x at)

pub drop_past : {X : Type 0} (xs : List X) (i : ℕ) → length xs ≤ i → drop i xs ≡ []
drop_past [] zero up = refl
drop_past [] (suc i) up = refl
drop_past (x ∷ xs) zero up = absurd (omega (arith, up))
drop_past (x ∷ xs) (suc i) up = drop_past xs i (omega (arith, up))

pub take_past : {X : Type 0} (xs : List X) (i : ℕ) → length xs ≤ i → take i xs ≡ xs
take_past [] zero up = refl
take_past [] (suc i) up = refl
take_past (x ∷ xs) zero up = absurd (omega (arith, up))
take_past (x ∷ xs) (suc i) up = ap (λ zs. x ∷ zs) (take_past xs i (omega (arith, up)))

pub same_by_places : {X : Type 0} (xs ys : List X) → length xs ≡ length ys → ((k : ℕ) → k < length xs → slice_get xs k ≡ slice_get ys k) → xs ≡ ys
same_by_places [] [] long each = refl
same_by_places [] (y ∷ ys) long each = absurd (omega (arith, long))
same_by_places (x ∷ xs) [] long each = absurd (omega (arith, long))
same_by_places (x ∷ xs) (y ∷ ys) long each =
    ap₂ (λ z zs. z ∷ zs) (same_Some x y (each 0 (omega arith)))
    (same_by_places xs ys (omega (arith, long)) (λ k below. each (suc k) (omega (arith, below))))

pub one_below_more : {P : ℕ → Type 0} (n k : ℕ) → ((j : ℕ) → j < n → P j) → P n → k < n + 1 → P k
one_below_more {P} n k before here below = elim (cases_lt k n) [
  | inl lower ↦ before k lower
  | inr up ↦ subst P (let e : n ≡ k = omega (arith, below, up) in e) here
]

pub mapped_read : {X Y : Type 0} (f : X → Y) (xs : List X) (i : ℕ) (d : X) → i < length xs → slice_get (map f xs) i ≡ Some (f (get_or xs i d))
mapped_read f xs i d inside = mapped_at f xs i (get_or xs i d) (slice_get-get_or xs i d inside)
