-- Strings that differ: there are no more of them than of those that they are among, and lists without a common string are joined.
use Rattle.std.proofs.Common.{◌≡◌, zero, suc, ◌≤◌, List, [], ◌∷◌, ◌++◌, Contains, ◌⊎◌, inl, inr, length, refl, sym, ap, ◌∙◌, subst, arith}
use Rattle.std.proofs.lemmas.List.Elements.{Contains-append_cases}
use Rattle.lw_look.specs.Strings.{AreDifferent, LookString}
use Rattle.lw_look.specs.Strings as different
use Rattle.lw_kinds.proofs.PassingReads.{further}
use Rattle.lw_base.proofs.Lists.{first_or_later, the_first}

abbrev Strings : Type 0
Strings = List LookString

-- ---- how many

-- a list without one of its strings
record Without (x : LookString) (ys : Strings) : Type 0 where
  rest : Strings
  count : length ys ≡ suc (length rest)
  others : (y : LookString) → Contains ys y → (y ≡ x) ⊎ Contains rest y

without : (x : LookString) (ys : Strings) → Contains ys x → Without x ys
without x [] (place, inside, is) = absurd (omega arith)
without x (z ∷ ys) (zero, inside, is) = record { rest = ys; count = refl; others = λ y has. by y (first_or_later z ys has) }
  where
    by : (y : LookString) → (z ≡ y) ⊎ Contains ys y → (y ≡ x) ⊎ Contains ys y
    by y (inl same) = inl (sym same ∙ is)
    by y (inr later) = inr later
without x (z ∷ ys) (suc place, inside, is) =
    let w = without x ys (place, omega arith, is) in
    record { rest = z ∷ w.rest; count = ap suc w.count; others = λ y has. by w y (first_or_later z ys has) }
  where
    by : (w : Without x ys) (y : LookString) → (z ≡ y) ⊎ Contains ys y → (y ≡ x) ⊎ Contains (z ∷ w.rest) y
    by w y (inl same) = inr (subst (Contains (z ∷ w.rest)) same (the_first z w.rest))
    by w y (inr later) = next (w.others y later)
      where
        next : (y ≡ x) ⊎ Contains w.rest y → (y ≡ x) ⊎ Contains (z ∷ w.rest) y
        next (inl same) = inl same
        next (inr has) = inr (further z w.rest y has)

pub few_different : (xs ys : Strings) → AreDifferent xs → ((x : LookString) → Contains xs x → Contains ys x) → length xs ≤ length ys
few_different [] ys different.none among = omega arith
few_different (x ∷ xs) ys (different.more absent rest) among =
    let w = without x ys (among x (the_first x xs)) in
    omega (arith, w.count, few_different xs w.rest rest (λ y has. by w y has (w.others y (among y (further x xs y has)))))
  where
    by : (w : Without x ys) (y : LookString) → Contains xs y → (y ≡ x) ⊎ Contains w.rest y → Contains w.rest y
    by w y has (inl same) = absurd (absent (subst (Contains xs) same has))
    by w y has (inr there) = there

-- ---- joined

pub joined_different : (xs ys : Strings) → AreDifferent xs → AreDifferent ys → ((x : LookString) → Contains xs x → ¬ Contains ys x) → AreDifferent (xs ++ ys)
joined_different [] ys different.none there apart = there
joined_different (x ∷ xs) ys (different.more absent rest) there apart =
    different.more (λ has. by (Contains-append_cases xs ys x has)) (joined_different xs ys rest there (λ y has. apart y (further x xs y has)))
  where
    by : Contains xs x ⊎ Contains ys x → ⊥
    by (inl here) = absent here
    by (inr later) = apart x (the_first x xs) later
