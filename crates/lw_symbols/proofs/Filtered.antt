-- What stands in a filtered list, and in a mapped one.
use Rattle.std.proofs.Common.{ℕ, zero, suc, ◌≡◌, ◌≤◌, Bool, true, false, cond, List, [], ◌∷◌, Contains, map, filter, length, refl, sym, ap, ◌∙◌, true≢false, arith}
use Rattle.lw_base.proofs.Lists.{there}
use Rattle.lw_base.specs.declared.numbers.NodeId.{NodeId}

module _ {X : Type 0} (p : X → Bool) where
  pub kept : (xs : List X) (x : X) → Contains xs x → p x ≡ true → Contains (filter p xs) x
  kept [] x (k, inside, is) passes = absurd (omega (arith, inside))
  kept (y ∷ xs) x (zero, inside, is) passes = by (p y) (ap p is ∙ passes)
    where
      by : (b : Bool) → b ≡ true → Contains (cond b (y ∷ filter p xs) (filter p xs)) x
      by true e = (0, omega arith, is)
      by false e = absurd (true≢false (sym e))
  kept (y ∷ xs) x (suc k, inside, is) passes = by (p y) (kept xs x (k, omega (arith, inside), is) passes)
    where
      by : (b : Bool) → Contains (filter p xs) x → Contains (cond b (y ∷ filter p xs) (filter p xs)) x
      by true has = there y (filter p xs) x has
      by false has = has

  pub kept_from : (xs : List X) (x : X) → Contains (filter p xs) x → Contains xs x × (p x ≡ true)
  kept_from [] x (k, inside, is) = absurd (omega (arith, inside))
  kept_from (y ∷ xs) x has = by (p y) refl (kept_from xs x) has
    where
      by : (b : Bool) → p y ≡ b → (Contains (filter p xs) x → Contains xs x × (p x ≡ true)) → Contains (cond b (y ∷ filter p xs) (filter p xs)) x →
          Contains (y ∷ xs) x × (p x ≡ true)
      by true e rest (zero, inside, is) = ((0, omega arith, is), ap p (sym is) ∙ e)
      by true e rest (suc k, inside, is) = let h = rest (k, omega (arith, inside), is) in (there y xs x h.0, h.1)
      by false e rest has = let h = rest has in (there y xs x h.0, h.1)

  pub no_longer : (xs : List X) → length (filter p xs) ≤ length xs
  no_longer [] = omega arith
  no_longer (y ∷ xs) = by (p y) (no_longer xs)
    where
      by : (b : Bool) → length (filter p xs) ≤ length xs → length (cond b (y ∷ filter p xs) (filter p xs)) ≤ length (y ∷ xs)
      by true le = omega (arith, le)
      by false le = omega (arith, le)

abbrev pub numbers : List NodeId → List ℕ
numbers cs = map (λ (c : NodeId). c.0) cs

-- filtered by their numbers
pub numbers_filter : (p : ℕ → Bool) (cs : List NodeId) → numbers (filter (λ (c : NodeId). p c.0) cs) ≡ filter p (numbers cs)
numbers_filter p [] = refl
numbers_filter p (c ∷ cs) = by (p c.0) (numbers_filter p cs)
  where
    by : (b : Bool) → numbers (filter (λ (c : NodeId). p c.0) cs) ≡ filter p (numbers cs) →
        numbers (cond b (c ∷ filter (λ (c : NodeId). p c.0) cs) (filter (λ (c : NodeId). p c.0) cs)) ≡ cond b (c.0 ∷ filter p (numbers cs)) (filter p (numbers cs))
    by true e = ap (λ (ks : List ℕ). c.0 ∷ ks) e
    by false e = e

pub numbered : (cs : List NodeId) (c : NodeId) → Contains cs c → Contains (numbers cs) c.0
numbered [] c (k, inside, is) = absurd (omega (arith, inside))
numbered (x ∷ cs) c (zero, inside, is) = (0, omega arith, ap (λ (c : NodeId). c.0) is)
numbered (x ∷ cs) c (suc k, inside, is) = there x.0 (numbers cs) c.0 (numbered cs c (k, omega (arith, inside), is))

pub of_number : (cs : List NodeId) (n : ℕ) → Contains (numbers cs) n → Contains cs (record { 0 = n })
of_number [] n (k, inside, is) = absurd (omega (arith, inside))
of_number (x ∷ cs) n (zero, inside, is) = (0, omega arith, λ i. record { 0 = is i })
of_number (x ∷ cs) n (suc k, inside, is) = there x cs (record { 0 = n }) (of_number cs n (k, omega (arith, inside), is))
