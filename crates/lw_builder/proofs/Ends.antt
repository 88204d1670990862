-- Lists by their last item.
use Rattle.std.proofs.Common.{◌≡◌, List, [], ◌∷◌, ◌++◌, length, refl, ap, arith, length-append}

pub front_of : {X : Type 0} (xs ys : List X) (x y : X) → xs ++ x ∷ [] ≡ ys ++ y ∷ [] → xs ≡ ys
front_of [] [] x y e = refl
front_of [] (z ∷ ys) x y e = absurd (let l = ap length e in omega (arith, l, length-append ys (y ∷ [])))
front_of (z ∷ xs) [] x y e = absurd (let l = ap length e in omega (arith, l, length-append xs (x ∷ [])))
front_of (z ∷ xs) (w ∷ ys) x y e =
    let t : xs ++ x ∷ [] ≡ ys ++ y ∷ [] = cc in
    let r : xs ≡ ys = front_of xs ys x y t in
    cc

pub last_of : {X : Type 0} (xs ys : List X) (x y : X) → xs ++ x ∷ [] ≡ ys ++ y ∷ [] → x ≡ y
last_of [] [] x y e = cc
last_of [] (z ∷ ys) x y e = absurd (let l = ap length e in omega (arith, l, length-append ys (y ∷ [])))
last_of (z ∷ xs) [] x y e = absurd (let l = ap length e in omega (arith, l, length-append xs (x ∷ [])))
last_of (z ∷ xs) (w ∷ ys) x y e =
    let t : xs ++ x ∷ [] ≡ ys ++ y ∷ [] = cc in
    last_of xs ys x y t

pub no_last : {X : Type 0} (xs : List X) (x : X) → [] ≡ xs ++ x ∷ [] → ⊥
no_last [] x e = cc
no_last (y ∷ xs) x e = cc

pub no_items : {X : Type 0} (xs : List X) → length xs ≡ 0 → xs ≡ []
no_items [] e = refl
no_items (x ∷ xs) e = absurd (omega (arith, e))
