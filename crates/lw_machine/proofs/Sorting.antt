-- A list in a strict order that holds what a list holds.
use Rattle.std.proofs.Common.{◌≡◌, List, [], ◌∷◌, AllPairs, Contains, suc, inl, inr, ◌⊎◌, sym, subst, arith}
use Rattle.std.specs.Prelude.{◌↔◌}
use Rattle.std.proofs.lemmas.List.Elements.{All-contains_itself, All-weaker}
use Rattle.std.proofs.lemmas.List.Kept.{AllPairs-cons}
use Rattle.lw_machine.proofs.Finite.{here, there, nothing, here_or_there}

module _ {X : Type 0} (R : X → X → Type 0) (further : (x y z : X) → R x y → R y z → R x z) (compare : (x y : X) →
    R x y ⊎ ((x ≡ y) ⊎ R y x)) where
  head_before : (x : X) (xs : List X) → AllPairs R (x ∷ xs) → (y : X) → Contains xs y → R x y
  head_before x xs sorted y (k, inside, is) = subst (R x) is (sorted 0 (suc k) y (omega arith) (omega (arith, inside)))

  tail_sorted : (x : X) (xs : List X) → AllPairs R (x ∷ xs) → AllPairs R xs
  tail_sorted x xs sorted i j d below inside = sorted (suc i) (suc j) d (omega (arith, below)) (omega (arith, inside))

  joined : (x : X) (xs : List X) → ((y : X) → Contains xs y → R x y) → AllPairs R xs → AllPairs R (x ∷ xs)
  joined x xs each sorted = AllPairs-cons R x xs (All-weaker (Contains xs) (R x) each xs (All-contains_itself xs)) sorted

  -- the list with one more item
  abbrev With : X → List X → Type 0
  With x ys = (zs : List X) × ((e : X) → Contains zs e ↔ ((x ≡ e) ⊎ Contains ys e)) × AllPairs R zs

  put : (x : X) (ys : List X) → AllPairs R ys → With x ys
  put x [] sorted = (x ∷ [], λ e. (here_or_there x [] e, back e), joined x [] (λ y has. absurd (nothing y has)) sorted)
    where
      back : (e : X) → (x ≡ e) ⊎ Contains [] e → Contains (x ∷ []) e
      back e (inl is) = subst (Contains (x ∷ [])) is (here x [])
      back e (inr has) = absurd (nothing e has)
  put x (y ∷ ys) sorted = by (compare x y) (put x ys (tail_sorted y ys sorted))
    where
      all_behind : R x y → (e : X) → Contains (y ∷ ys) e → R x e
      all_behind less e has = elim (here_or_there y ys e has) [
        | inl same ↦ subst (R x) same less
        | inr later ↦ further x y e less (head_before y ys sorted e later)
      ]

      in_front : (e : X) → (x ≡ e) ⊎ Contains (y ∷ ys) e → Contains (x ∷ y ∷ ys) e
      in_front e (inl is) = subst (Contains (x ∷ y ∷ ys)) is (here x (y ∷ ys))
      in_front e (inr has) = there x (y ∷ ys) e has

      already : x ≡ y → (e : X) → (x ≡ e) ⊎ Contains (y ∷ ys) e → Contains (y ∷ ys) e
      already same e (inl is) = subst (Contains (y ∷ ys)) is (subst (Contains (y ∷ ys)) (sym same) (here y ys))
      already same e (inr has) = has

      behind : R y x → With x ys → With x (y ∷ ys)
      behind more (zs, are, rest) = (y ∷ zs, λ e. (forth e, back e), joined y zs before_each rest)
        where
          before_each : (e : X) → Contains zs e → R y e
          before_each e has = elim ((are e).0 has) [ inl is ↦ subst (R y) is more | inr later ↦ head_before y ys sorted e later ]

          forth : (e : X) → Contains (y ∷ zs) e → (x ≡ e) ⊎ Contains (y ∷ ys) e
          forth e has = elim (here_or_there y zs e has) [
            | inl is ↦ inr (subst (Contains (y ∷ ys)) is (here y ys))
            | inr later ↦ elim ((are e).0 later) [ inl is ↦ inl is | inr old ↦ inr (there y ys e old) ]
          ]

          old_back : (e : X) → (y ≡ e) ⊎ Contains ys e → Contains (y ∷ zs) e
          old_back e (inl is) = subst (Contains (y ∷ zs)) is (here y zs)
          old_back e (inr later) = there y zs e ((are e).1 (inr later))

          back : (e : X) → (x ≡ e) ⊎ Contains (y ∷ ys) e → Contains (y ∷ zs) e
          back e (inl is) = there y zs e ((are e).1 (inl is))
          back e (inr has) = old_back e (here_or_there y ys e has)

      by : R x y ⊎ ((x ≡ y) ⊎ R y x) → With x ys → With x (y ∷ ys)
      by (inl less) rest = (x ∷ y ∷ ys, λ e. (here_or_there x (y ∷ ys) e, in_front e), joined x (y ∷ ys) (all_behind less) sorted)
      by (inr (inl same)) rest = (y ∷ ys, λ e. (λ has. inr has, already same e), sorted)
      by (inr (inr more)) rest = behind more rest

  pub in_order : (xs : List X) → (ys : List X) × ((e : X) → Contains ys e ↔ Contains xs e) × AllPairs R ys
  in_order [] = ([], λ e. (λ has. has, λ has. has), λ i j d below inside. absurd (omega (arith, below, inside)))
  in_order (x ∷ xs) = by (in_order xs)
    where
      by : ((ys : List X) × ((e : X) → Contains ys e ↔ Contains xs e) × AllPairs R ys) →
          (zs : List X) × ((e : X) → Contains zs e ↔ Contains (x ∷ xs) e) × AllPairs R zs
      by (ys, are, sorted) = more (put x ys sorted)
        where
          more : With x ys → (zs : List X) × ((e : X) → Contains zs e ↔ Contains (x ∷ xs) e) × AllPairs R zs
          more (zs, were, rest) = (zs, λ e. (λ has. forth e ((were e).0 has), λ has. (were e).1 (back e (here_or_there x xs e has))), rest)
            where
              forth : (e : X) → (x ≡ e) ⊎ Contains ys e → Contains (x ∷ xs) e
              forth e (inl is) = subst (Contains (x ∷ xs)) is (here x xs)
              forth e (inr has) = there x xs e ((are e).0 has)

              back : (e : X) → (x ≡ e) ⊎ Contains xs e → (x ≡ e) ⊎ Contains ys e
              back e (inl is) = inl is
              back e (inr has) = inr ((are e).1 has)
