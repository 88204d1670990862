-- The entries of a map by addresses: what stands among them is held, and what is held stands among them.
use Rattle.std.proofs.Common.{◌≡◌, ℕ, zero, suc, List, [], ◌∷◌, ◌++◌, map, slice_get, cond, T, Some, Ordering, Less, Equal, Greater, is_eq, is_lt, nat_cmp, refl, sym, ap, subst, ◌∙◌, inl, inr, ◌⊎◌}
use Rattle.std.specs.Cmp.Lexicographic.{slice_cmp}
use Rattle.std.specs.FinMap.{FinMap, get, entries, find, is_sorted, entries_sorted, get-entries}
use Rattle.std.specs.FinMap.Entries.{below_all}
use Rattle.lw_machine.proofs.Places.{order, tied, test_same, Among, first, later}
use Rattle.lw_machine.proofs.Entries.{both, above}

module _ {X : Type 0} where
  pub below_each : (a : List ℕ) (es : List (List ℕ × X)) (b : List ℕ) (x : X) → T (below_all order a es) → Among (b, x) es → T (is_lt (order a b))
  below_each a [] b x below there = elim there [ ]
  below_each a (e ∷ es) b x below first = (both (is_lt (order a e.0)) (below_all order a es) below).0
  below_each a (e ∷ es) b x below (later there) = below_each a es b x (both (is_lt (order a e.0)) (below_all order a es) below).1 there

  entry_found : (a : List ℕ) (x : X) (es : List (List ℕ × X)) → T (is_sorted order es) → Among (a, x) es → find order a es ≡ Some x
  entry_found a x es sorted (first {xs = rest}) = ap (λ b. cond b (Some x) (find order a rest)) (test_same a)
  entry_found a x es sorted (later {y = e} {xs = rest} there) =
      let parts = both (below_all order e.0 rest) (is_sorted order rest) sorted in
      ap (λ b. cond b (Some e.1) (find order a rest)) (above e.0 a (below_each e.0 rest a x parts.0 there)) ∙ entry_found a x rest parts.1 there

  found_entry : (es : List (List ℕ × X)) (a : List ℕ) (x : X) → find order a es ≡ Some x → Among (a, x) es
  found_entry [] a x is = absurd (let e = is in cc)
  found_entry (e ∷ es) a x is = by (order a e.0) refl is (found_entry es a x)
    where
      by : (r : Ordering) → order a e.0 ≡ r → cond (is_eq r) (Some e.1) (find order a es) ≡ Some x →
          (find order a es ≡ Some x → Among (a, x) es) → Among (a, x) (e ∷ es)
      by Less was found rest = later (rest found)
      by Equal was found rest =
          let same : ◌≡◌ {A = List ℕ × X} e (a, x) = (let p = sym (tied a e.0 was) in let q : e.1 ≡ x = (let f = found in cc) in λ i. (p i, q i)) in
          subst (λ p. Among (a, x) (p ∷ es)) (sym same) first
      by Greater was found rest = later (rest found)

  pub entry_held : (m : FinMap (slice_cmp nat_cmp) X) (a : List ℕ) (x : X) → Among (a, x) (entries m) → get m a ≡ Some x
  entry_held m a x there = get-entries m a ∙ entry_found a x (entries m) (entries_sorted m) there

  pub held_entry : (m : FinMap (slice_cmp nat_cmp) X) (a : List ℕ) (x : X) → get m a ≡ Some x → Among (a, x) (entries m)
  held_entry m a x is = found_entry (entries m) a x (sym (get-entries m a) ∙ is)

-- ---- among the items of a list

pub among_split : {A : Type 0} (y z : A) (zs : List A) → Among y (z ∷ zs) → (y ≡ z) ⊎ Among y zs
among_split y z zs first = inl refl
among_split y z zs (later there) = inr there

module _ {A B : Type 0} (f : A → B) where
  pub among_map : (x : A) (xs : List A) → Among x xs → Among (f x) (map f xs)
  among_map x xs first = first
  among_map x xs (later {xs = rest} there) = later (among_map x rest there)

  pub map_among : (y : B) (xs : List A) → Among y (map f xs) → (x : A) × Among x xs × (f x ≡ y)
  map_among y [] there = elim there [ ]
  map_among y (x ∷ xs) there = elim (among_split y (f x) (map f xs) there) [
    | inl one ↦ (x, first, sym one)
    | inr more ↦ let (z, among, is) = map_among y xs more in (z, later among, is)
  ]

  pub map_push : (xs : List A) (x : A) → map f (xs ++ x ∷ []) ≡ map f xs ++ f x ∷ []
  map_push [] x = refl
  map_push (y ∷ xs) x = ap (λ zs. f y ∷ zs) (map_push xs x)

module _ {A : Type 0} where
  pub among_at : (xs : List A) (i : ℕ) (x : A) → slice_get xs i ≡ Some x → Among x xs
  among_at [] i x is = absurd (let e = is in cc)
  among_at (y ∷ xs) zero x is = subst (λ z. Among x (z ∷ xs)) (let e = is in let s : x ≡ y = cc in s) first
  among_at (y ∷ xs) (suc i) x is = later (among_at xs i x is)

  pub among_push : (xs : List A) (x y : A) → Among y (xs ++ x ∷ []) → Among y xs ⊎ (x ≡ y)
  among_push [] x y first = inr refl
  among_push [] x y (later there) = elim there [ ]
  among_push (z ∷ xs) x y first = inl first
  among_push (z ∷ xs) x y (later there) = elim (among_push xs x y there) [ inl old ↦ inl (later old) | inr new ↦ inr new ]

  pub with_nothing : (xs : List A) → xs ++ [] ≡ xs
  with_nothing [] = refl
  with_nothing (x ∷ xs) = ap (λ ys. x ∷ ys) (with_nothing xs)
