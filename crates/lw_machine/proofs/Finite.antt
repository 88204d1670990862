-- What is decided of each item of a list, and what is found by going through one: some item, a least one, and all that is told of items.
use Rattle.std.proofs.Common.{◌≡◌, ℕ, zero, suc, ◌<◌, List, [], ◌∷◌, ◌++◌, Contains, inl, inr, ◌⊎◌, refl, sym, subst, arith}
use Rattle.std.specs.Prelude.{◌↔◌}
use Rattle.std.proofs.lemmas.Bool.{cases_order}

-- it is so, or it is not
abbrev pub Decided : Type 0 → Type 0
Decided P = P ⊎ (¬ P)

-- ---- items of lists

pub here : {X : Type 0} (x : X) (xs : List X) → Contains (x ∷ xs) x
here x xs = (0, omega arith, refl)

pub there : {X : Type 0} (y : X) (xs : List X) (x : X) → Contains xs x → Contains (y ∷ xs) x
there y xs x (k, inside, is) = (suc k, omega (arith, inside), is)

pub nothing : {X : Type 0} (x : X) → ¬ Contains [] x
nothing x (k, inside, is) = omega (arith, inside)

pub here_or_there : {X : Type 0} (y : X) (xs : List X) (x : X) → Contains (y ∷ xs) x → (y ≡ x) ⊎ Contains xs x
here_or_there y xs x (zero, inside, is) = inl is
here_or_there y xs x (suc k, inside, is) = inr (k, omega (arith, inside), is)

in_front : {X : Type 0} (xs ys : List X) (x : X) → Contains xs x → Contains (xs ++ ys) x
in_front [] ys x has = absurd (nothing x has)
in_front (y ∷ xs) ys x has = by (here_or_there y xs x has) (in_front xs ys x)
  where
    by : (y ≡ x) ⊎ Contains xs x → (Contains xs x → Contains (xs ++ ys) x) → Contains (y ∷ (xs ++ ys)) x
    by (inl is) rest = subst (Contains (y ∷ (xs ++ ys))) is (here y (xs ++ ys))
    by (inr has) rest = there y (xs ++ ys) x (rest has)

pub behind : {X : Type 0} (xs ys : List X) (x : X) → Contains ys x → Contains (xs ++ ys) x
behind [] ys x has = has
behind (y ∷ xs) ys x has = there y (xs ++ ys) x (behind xs ys x has)

pub in_either : {X : Type 0} (xs ys : List X) (x : X) → Contains (xs ++ ys) x → Contains xs x ⊎ Contains ys x
in_either [] ys x has = inr has
in_either (y ∷ xs) ys x has = by (here_or_there y (xs ++ ys) x has) (in_either xs ys x)
  where
    by : (y ≡ x) ⊎ Contains (xs ++ ys) x → (Contains (xs ++ ys) x → Contains xs x ⊎ Contains ys x) → Contains (y ∷ xs) x ⊎ Contains ys x
    by (inl is) rest = inl (subst (Contains (y ∷ xs)) is (here y xs))
    by (inr has) rest = elim (rest has) [ inl front ↦ inl (there y xs x front) | inr back ↦ inr back ]

-- the numbers below a limit
pub below : ℕ → List ℕ
below zero = []
below (suc n) = n ∷ below n

pub is_below : (n k : ℕ) → k < n → Contains (below n) k
unfolding below
is_below zero k lt = absurd (omega (arith, lt))
is_below (suc n) k lt = by (cases k n) (is_below n k)
  where
    cases : (k n : ℕ) → (n ≡ k) ⊎ ((k < n) ⊎ (n < k))
    cases k n = elim (cases_order n k) [ inl same ↦ inl same | inr (inl lt) ↦ inr (inr lt) | inr (inr gt) ↦ inr (inl gt) ]

    by : (n ≡ k) ⊎ ((k < n) ⊎ (n < k)) → (k < n → Contains (below n) k) → Contains (n ∷ below n) k
    by (inl is) rest = subst (Contains (n ∷ below n)) is (here n (below n))
    by (inr (inl less)) rest = there n (below n) k (rest less)
    by (inr (inr more)) rest = absurd (omega (arith, more, lt))

-- ---- going through a list

module _ {X : Type 0} (P : X → Type 0) where
  -- some item passes, or none does
  pub some : ((x : X) → Decided (P x)) → (xs : List X) → Decided ((x : X) × Contains xs x × P x)
  some decide [] = inr (λ is. nothing is.0 is.1)
  some decide (y ∷ xs) = by (decide y) (some decide xs)
    where
      by : Decided (P y) → Decided ((x : X) × Contains xs x × P x) → Decided ((x : X) × Contains (y ∷ xs) x × P x)
      by (inl does) rest = inl (y, here y xs, does)
      by (inr not) (inl (x, has, does)) = inl (x, there y xs x has, does)
      by (inr not) (inr none) =
          inr (λ is. elim (here_or_there y xs is.0 is.1) [ inl same ↦ not (subst P (sym same) is.2) | inr has ↦ none (is.0, has, is.2) ])

  -- a least one of those that pass, or none does
  abbrev pub Least : (X → X → Type 0) → List X → Type 0
  Least Before xs = ((x : X) × P x × ((y : X) → Contains xs y → P y → Before x y)) ⊎ ((y : X) → Contains xs y → ¬ P y)

  module _ (Before : X → X → Type 0) (itself : (x : X) → Before x x) (further : (x y z : X) → Before x y → Before y z → Before x z)
      (either : (x y : X) → Before x y ⊎ Before y x) where
    pub least : ((x : X) → Decided (P x)) → (xs : List X) → Least Before xs
    least decide [] = inr (λ y has does. nothing y has)
    least decide (w ∷ xs) = by (decide w) (least decide xs)
      where
        before_all : (x : X) → Before x w → ((y : X) → Contains xs y → P y → Before x y) → (y : X) → Contains (w ∷ xs) y → P y → Before x y
        before_all x first rest y has does = elim (here_or_there w xs y has) [
          | inl same ↦ subst (Before x) same first
          | inr later ↦ rest y later does
        ]

        but_first : ¬ P w → (Q : X → Type 0) → ((y : X) → Contains xs y → P y → Q y) → (y : X) → Contains (w ∷ xs) y → P y → Q y
        but_first not Q rest y has does = elim (here_or_there w xs y has) [
          | inl same ↦ absurd (not (subst P (sym same) does))
          | inr later ↦ rest y later does
        ]

        by : Decided (P w) → Least Before xs → Least Before (w ∷ xs)
        by (inl does) (inl (x, did, first)) = elim (either w x) [
          | inl sooner ↦ inl (w, does, before_all w (itself w) (λ y has is. further w x y sooner (first y has is)))
          | inr later ↦ inl (x, did, before_all x later first)
        ]
        by (inl does) (inr none) = inl (w, does, before_all w (itself w) (λ y has is. absurd (none y has is)))
        by (inr not) (inl (x, did, first)) = inl (x, did, but_first not (Before x) first)
        by (inr not) (inr none) = inr (but_first not (λ y. ⊥) none)

-- ---- all that is told

-- a list holds exactly what is so
abbrev pub Listed : {E : Type 0} → (E → Type 0) → Type 0
Listed {E} P = (es : List E) × ((e : E) → Contains es e ↔ P e)

module _ {E : Type 0} where
  pub none_listed : (P : E → Type 0) → ((e : E) → ¬ P e) → Listed P
  none_listed P none = ([], λ e. (λ has. absurd (nothing e has), λ is. absurd (none e is)))

  pub one_listed : (P : E → Type 0) (x : E) → P x → ((e : E) → P e → x ≡ e) → Listed P
  one_listed P x is only = (
    x ∷ [],
    λ e. (
      λ has. elim (here_or_there x [] e has) [ inl same ↦ subst P same is | inr none ↦ absurd (nothing e none) ],
      λ does. subst (Contains (x ∷ [])) (only e does) (here x []),
    ),
  )

  pub either_listed : (P Q : E → Type 0) → Listed P → Listed Q → Listed (λ e. P e ⊎ Q e)
  either_listed P Q (xs, are) (ys, were) = (
    xs ++ ys,
    λ e. (
      λ has. elim (in_either xs ys e has) [ inl front ↦ inl ((are e).0 front) | inr back ↦ inr ((were e).0 back) ],
      λ is. elim is [ inl does ↦ in_front xs ys e ((are e).1 does) | inr does ↦ behind xs ys e ((were e).1 does) ],
    ),
  )

  pub as_listed : (P Q : E → Type 0) → ((e : E) → P e → Q e) → ((e : E) → Q e → P e) → Listed P → Listed Q
  as_listed P Q forth back (es, are) = (es, λ e. (λ has. forth e ((are e).0 has), λ is. (are e).1 (back e is)))

  -- of some item
  pub each_listed : {X : Type 0} (P : X → E → Type 0) (xs : List X) → ((x : X) → Contains xs x → Listed (P x)) →
      Listed (λ e. (x : X) × Contains xs x × P x e)
  each_listed P [] each = none_listed (λ e. (x : _) × Contains [] x × P x e) (λ e is. nothing is.0 is.1)
  each_listed {X} P (y ∷ xs) each =
      as_listed (λ e. P y e ⊎ ((x : X) × Contains xs x × P x e)) (λ e. (x : X) × Contains (y ∷ xs) x × P x e) forth back
      (either_listed (P y) (λ e. (x : X) × Contains xs x × P x e) (each y (here y xs))
      (each_listed P xs (λ x has. each x (there y xs x has))))
    where
      forth : (e : E) → P y e ⊎ ((x : X) × Contains xs x × P x e) → (x : X) × Contains (y ∷ xs) x × P x e
      forth e (inl is) = (y, here y xs, is)
      forth e (inr (x, has, is)) = (x, there y xs x has, is)

      back : (e : E) → ((x : X) × Contains (y ∷ xs) x × P x e) → P y e ⊎ ((x : X) × Contains xs x × P x e)
      back e (x, has, is) = elim (here_or_there y xs x has) [
        | inl same ↦ inl (subst (λ z. P z e) (sym same) is)
        | inr later ↦ inr (x, later, is)
      ]
