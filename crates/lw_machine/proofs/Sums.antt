-- Sums over lists, compared item by item, and over the values of a map.
use Rattle.std.proofs.Common.{◌≡◌, ℕ, suc, ◌+◌, ◌*◌, ◌≤◌, List, [], ◌∷◌, length, map, sum_by, cond, T, Option, Some, None, is_eq, sym, refl, ap, ◌∙◌, arith}
use Rattle.std.proofs.lemmas.List.Sums.{sum_by-cons}
use Rattle.std.specs.FinMap.{get, keys, values, len, entries, find, is_sorted, entries_sorted, get-entries, len-entries}
use Rattle.std.specs.FinMap.Entries.{below_all}
use Rattle.lw_machine.specs.Documents.{Document, Documents}
use Rattle.lw_machine.proofs.Places.{order, test_same, Among, first, later}
use Rattle.lw_machine.proofs.Entries.{both, above, below_each}

module _ {A : Type 0} where
  abbrev pub total : (A → ℕ) → List A → ℕ
  total f [] = 0
  total f (x ∷ xs) = f x + total f xs

  pub total-sum_by : (f : A → ℕ) (xs : List A) → sum_by f xs ≡ total f xs
  total-sum_by f [] = refl
  total-sum_by f (x ∷ xs) = sum_by-cons f x xs ∙ ap (λ n. f x + n) (total-sum_by f xs)

  -- each item at most so much larger
  pub total_within : (f g : A → ℕ) (more : ℕ) (xs : List A) → ((x : A) → g x ≤ f x + more) → total g xs ≤ total f xs + more * length xs
  total_within f g more [] each = omega arith
  total_within f g more (x ∷ xs) each = omega (arith, each x, total_within f g more xs each)

  -- and one of them smaller
  pub total_falls : (f g : A → ℕ) (more less : ℕ) (a : A) (xs : List A) → ((x : A) → g x ≤ f x + more) → g a + less ≤ f a → Among a xs →
      total g xs + less + more ≤ total f xs + more * length xs
  total_falls f g more less a xs each falls (first {xs = rest}) = omega (arith, total_within f g more rest each)
  total_falls f g more less a xs each falls (later {y = y} {xs = rest} there) = omega (arith, each y, total_falls f g more less a rest each falls there)

  pub same_total : (f g : A → ℕ) (xs : List A) → ((x : A) → Among x xs → f x ≡ g x) → total f xs ≡ total g xs
  same_total f g [] each = refl
  same_total f g (x ∷ xs) each = omega (arith, each x first, same_total f g xs (λ y there. each y (later there)))

pub total_map : {A B : Type 0} (f : B → ℕ) (into : A → B) (xs : List A) → total f (map into xs) ≡ total (λ x. f (into x)) xs
total_map f into [] = refl
total_map f into (x ∷ xs) = ap (λ n. f (into x) + n) (total_map f into xs)

-- what is held at an address counts, and nothing does not
abbrev pub weigh : (Document → ℕ) → Option Document → ℕ
weigh f None = 0
weigh f (Some d) = f d

over_entries : (f : Document → ℕ) (es : List (List ℕ × Document)) → T (is_sorted order es) →
    total (λ a. weigh f (find order a es)) (map (λ e. e.0) es) ≡ total (λ e. f e.1) es
over_entries f [] sorted = refl
over_entries f (e ∷ es) sorted =
    let parts = both (below_all order e.0 es) (is_sorted order es) sorted in
    let head : weigh f (cond (is_eq (order e.0 e.0)) (Some e.1) (find order e.0 es)) ≡ f e.1 =
    ap (λ b. weigh f (cond b (Some e.1) (find order e.0 es))) (test_same e.0) in
    let tail = same_total (λ a. weigh f (cond (is_eq (order a e.0)) (Some e.1) (find order a es))) (λ a. weigh f (find order a es)) (map (λ e. e.0) es)
    (λ a there. ap (λ b. weigh f (cond b (Some e.1) (find order a es))) (above e.0 a (below_each e.0 es a parts.0 there))) in
    omega (arith, head, tail, over_entries f es parts.1)

module _ (m : Documents) where
  pub length-keys : length (keys m) ≡ len m
  length-keys = same (entries m) ∙ sym (len-entries m)
    where
      same : (es : List (List ℕ × Document)) → length (map (λ e. e.0) es) ≡ length es
      same [] = refl
      same (e ∷ es) = ap suc (same es)

  -- what is held at the addresses, and the documents
  pub over_keys : (f : Document → ℕ) → total (λ a. weigh f (get m a)) (keys m) ≡ sum_by f (values m)
  over_keys f =
      same_total (λ a. weigh f (get m a)) (λ a. weigh f (find order a (entries m))) (keys m) (λ a there. ap (weigh f) (get-entries m a))
      ∙ over_entries f (entries m) (entries_sorted m) ∙ sym (total_map f (λ e. e.1) (entries m)) ∙ sym (total-sum_by f (values m))
