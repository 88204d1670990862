-- The texts of a list, each at its first place alone: they are the texts of the list.
use Rattle.std.proofs.Common.{◌≡◌, ℕ, List, [], ◌∷◌, Bool, true, false, ◌||◌, if◌then◌else◌, Contains, refl, sym, ap, ◌∙◌, true≢false}
use Rattle.std.specs.List.{list_any}
use Rattle.std.specs.Str.{bytes_eq}
use Rattle.std.specs.Cmp.Lexicographic.{nat_list_eq_equiv}
use Rattle.std.proofs.lemmas.Map.Views.{list_any-from_Contains, Contains-from_any}
use Rattle.std.proofs.lemmas.Slice.Eq.{bytes_eq-Decides}
use Rattle.lw_grammar.specs.Kinds.{first_uses}

-- whether a text stands in a list
abbrev pub stands_in : List ℕ → List (List ℕ) → Bool
stands_in text texts = list_any (bytes_eq text) texts

pub same_text : (a b : List ℕ) → bytes_eq a b ≡ true → a ≡ b
same_text a b h = (bytes_eq-Decides a b).0 h

pub absorb : (a e c : Bool) → (e ≡ true → a ≡ true) → (a || c) ≡ (a || (e || c))
absorb true e c h = refl
absorb false true c h = absurd (true≢false (sym (h refl)))
absorb false false c h = refl

pub swap_or : (a e c : Bool) → ((e || a) || c) ≡ (a || (e || c))
swap_or true true c = refl
swap_or true false c = refl
swap_or false true c = refl
swap_or false false c = refl

-- the same texts stand in the list and among its first uses
abbrev Stands : List (List ℕ) → List ℕ → List (List ℕ) → Type 0
Stands xs x seen = (stands_in x seen || stands_in x (first_uses seen xs)) ≡ (stands_in x seen || stands_in x xs)

stands_after : (x : List ℕ) (seen xs : List (List ℕ)) → Stands xs x seen
stands_after x seen [] = refl
stands_after x seen (y ∷ xs) = by (stands_after x seen xs) (stands_after x (y ∷ seen) xs) (stands_in y seen) refl
  where
    by : Stands xs x seen → Stands xs x (y ∷ seen) → (b : Bool) → stands_in y seen ≡ b → (stands_in x seen || stands_in x (if b then first_uses seen xs else y ∷ first_uses (y ∷ seen) xs))
        ≡ (stands_in x seen || (bytes_eq x y || stands_in x xs))
    by same new true e =
        same
        ∙ absorb (stands_in x seen) (bytes_eq x y) (stands_in x xs) (λ same. ap (λ t. stands_in t seen) (same_text x y same) ∙ e)
    by same new false e =
        sym (swap_or (stands_in x seen) (bytes_eq x y) (stands_in x (first_uses (y ∷ seen) xs)))
        ∙ new ∙ swap_or (stands_in x seen) (bytes_eq x y) (stands_in x xs)

pub stands_first : (x : List ℕ) (xs : List (List ℕ)) → stands_in x (first_uses [] xs) ≡ stands_in x xs
stands_first x xs = stands_after x [] xs

pub Contains-first_uses : (xs : List (List ℕ)) (x : List ℕ) → Contains xs x → Contains (first_uses [] xs) x
Contains-first_uses xs x h = Contains-from_any same_text x (first_uses [] xs) (stands_first x xs ∙ list_any-from_Contains nat_list_eq_equiv x xs h)

pub Contains-from_first_uses : (xs : List (List ℕ)) (x : List ℕ) → Contains (first_uses [] xs) x → Contains xs x
Contains-from_first_uses xs x h =
    Contains-from_any same_text x xs (sym (stands_first x xs) ∙ list_any-from_Contains nat_list_eq_equiv x (first_uses [] xs) h)
