-- What stands in a list that is put together of others, and what equal lists have alike.
use Rattle.std.proofs.Common.{◌≡◌, zero, suc, List, [], ◌∷◌, ◌++◌, map, length, Contains, refl, sym, ap, subst, ◌∙◌, arith}
use Rattle.std.specs.List.{flat_map}
use Rattle.std.proofs.lemmas.List.{length-append}
use Rattle.std.proofs.lemmas.List.Elements.{Contains-append_left, Contains-append_right}
use Rattle.lw_base.proofs.Lists.{there}

pub alone : {X : Type 0} (x : X) → Contains (x ∷ []) x
alone x = (0, omega arith, refl)

pub in_flat : {X L : Type 0} (f : X → List L) (xs : List X) (x : X) (l : L) → Contains xs x → Contains (f x) l → Contains (flat_map f xs) l
in_flat f [] x l (i, inside, is) has = absurd (omega (arith, inside))
in_flat f (z ∷ xs) x l (zero, inside, is) has = Contains-append_left (f z) (flat_map f xs) l (subst (λ x. Contains (f x) l) (sym is) has)
in_flat f (z ∷ xs) x l (suc i, inside, is) has = Contains-append_right (f z) (flat_map f xs) l (in_flat f xs x l (i, omega (arith, inside), is) has)

pub mapped : {X Y : Type 0} (f : X → Y) (xs : List X) (x : X) → Contains xs x → Contains (map f xs) (f x)
mapped f [] x (i, inside, is) = absurd (omega (arith, inside))
mapped f (y ∷ xs) x (zero, inside, is) = (0, omega arith, ap f is)
mapped f (y ∷ xs) x (suc i, inside, is) = there (f y) (map f xs) (f x) (mapped f xs x (i, omega (arith, inside), is))

-- lists that begin or end alike
pub same_head : {X : Type 0} {x y : X} {xs ys : List X} → x ∷ xs ≡ y ∷ ys → x ≡ y
same_head e = cc

pub same_tail : {X : Type 0} {x y : X} {xs ys : List X} → x ∷ xs ≡ y ∷ ys → xs ≡ ys
same_tail e = cc

pub no_end_is_empty : {X : Type 0} (xs : List X) (x : X) → xs ++ x ∷ [] ≡ [] → ⊥
no_end_is_empty xs x e = omega (arith, ap length e, length-append xs (x ∷ []))

pub same_front : {X : Type 0} (xs ys : List X) (x y : X) → xs ++ x ∷ [] ≡ ys ++ y ∷ [] → xs ≡ ys
same_front [] [] x y e = refl
same_front [] (b ∷ ys) x y e = absurd (no_end_is_empty ys y (sym (same_tail e)))
same_front (a ∷ xs) [] x y e = absurd (no_end_is_empty xs x (same_tail e))
same_front (a ∷ xs) (b ∷ ys) x y e = ap (λ c. c ∷ xs) (same_head e) ∙ ap (λ zs. b ∷ zs) (same_front xs ys x y (same_tail e))

pub same_last : {X : Type 0} (xs ys : List X) (x y : X) → xs ++ x ∷ [] ≡ ys ++ y ∷ [] → x ≡ y
same_last [] [] x y e = same_head e
same_last [] (b ∷ ys) x y e = absurd (no_end_is_empty ys y (sym (same_tail e)))
same_last (a ∷ xs) [] x y e = absurd (no_end_is_empty xs x (same_tail e))
same_last (a ∷ xs) (b ∷ ys) x y e = same_last xs ys x y (same_tail e)
