-- The items of a list changed in their turns, in place.
use Rattle.std.proofs.Common.{ℕ, zero, suc, ◌≡◌, ◌≤◌, ◌<◌, List, [], ◌∷◌, ◌++◌, length, map, take, drop, get_or, All, refl, sym, subst, ap, ◌∙◌, arith}
use Rattle.std.proofs.lemmas.List.{append-nil, drop_all, length-map, take_all, take-append-le}

-- the next is as it was
unchanged : {X : Type 0} (f : X → X) (xs : List X) (i : ℕ) (d : X) → i < length xs → get_or (map f (take i xs) ++ drop i xs) i d ≡ get_or xs i d
unchanged f [] i d lt = absurd (omega (arith, lt))
unchanged f (x ∷ xs) zero d lt = refl
unchanged f (x ∷ xs) (suc i) d lt = unchanged f xs i d (omega (arith, lt))

pub next_is : {X : Type 0} (f : X → X) (xs ys whole : List X) (i : ℕ) (d : X) (P : X → Type 0) → i < length xs → ys ≡ map f (take i xs) ++ drop i xs → xs ≡ whole →
    All P whole → P (get_or ys i d)
next_is f xs ys whole i d P lt e same all =
    let as_it_was : get_or ys i d ≡ get_or whole i d = ap (λ l. get_or l i d) e ∙ unchanged f xs i d lt ∙ ap (λ l. get_or l i d) same in
    subst P (sym as_it_was) (all i d (omega (arith, lt, ap length same)))

-- the list that a loop over the items hands back
pub handed_back : {X : Type 0} (f : X → X) (xs ys whole : List X) (i n : ℕ) → length xs ≤ i → ys ≡ map f (take i xs) ++ drop i xs → xs ≡ whole → n ≡ length xs →
    take n (ys ++ drop (length ys) whole) ≡ map f whole
handed_back f xs ys whole i n le e same long =
    let done : ys ≡ map f xs = e ∙ ap (λ l. map f l ++ drop i xs) (take_all i xs le) ∙ ap (λ l. map f xs ++ l) (drop_all i xs le) ∙ append-nil (map f xs) in
    let room : length ys ≡ n = omega (arith, ap length done, length-map xs f, long) in
    take-append-le n ys (drop (length ys) whole) (omega (arith, room)) ∙ take_all n ys (omega (arith, room)) ∙ done ∙ ap (map f) same
