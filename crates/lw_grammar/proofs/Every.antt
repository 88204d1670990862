-- What holds of each item of a list that is written out, and what a name means in such lists.
use Rattle.std.proofs.Common.{◌≡◌, ◌≢◌, ℕ, zero, suc, List, [], ◌∷◌, Some, slice_get, Contains, bytes_eq, false, refl, sym, ◌∙◌, subst, arith, ◌<◌, true≢false}
use Rattle.std.proofs.lemmas.Slice.Eq.{bytes_eq-Decides}
use Rattle.std.proofs.lemmas.Option.{none-some, same_Some}
use Rattle.lw_grammar.specs.Named.{IsFirst, IsMeant, Declaration}

abbrev pub Every : {X : Type 0} → (X → Type 0) → List X → Type 0
Every P [] = Unit {0}
Every P (x ∷ xs) = P x × Every P xs

module _ {X : Type 0} (P : X → Type 0) where
  pub every_of : (xs : List X) (x : X) → Every P xs → Contains xs x → P x
  every_of [] x all (k, inside, is) = absurd (omega arith)
  every_of (y ∷ xs) x all (zero, inside, is) = subst P is all.0
  every_of (y ∷ xs) x all (suc k, inside, is) = every_of xs x all.1 (k, omega arith, is)

  pub every_at : (xs : List X) (i : ℕ) (x : X) → Every P xs → slice_get xs i ≡ Some x → P x
  every_at [] i x all is = absurd (none-some x is)
  every_at (y ∷ xs) zero x all is = subst P (same_Some y x is) all.0
  every_at (y ∷ xs) (suc i) x all is = every_at xs i x all.1 is

-- texts that are written out and differ
pub differ : (a b : List ℕ) → bytes_eq a b ≡ false → a ≢ b
differ a b apart same = true≢false (sym ((bytes_eq-Decides a b).1 same) ∙ apart)

-- the first that passes, from the front
module _ {X : Type 0} {passes : X → Type 0} where
  pub first_here : {x : X} {xs : List X} → passes x → IsFirst passes (x ∷ xs) 0 x
  first_here {x} {xs} does = record { there = refl; does = does; none_before = λ j y below. absurd (omega arith) }

  pub first_later : {x y : X} {xs : List X} {i : ℕ} → ¬ passes y → IsFirst passes xs i x → IsFirst passes (y ∷ xs) (suc i) x
  first_later {x} {y} {xs} {i} not is = record { there = is.there; does = is.does; none_before = before }
    where
      before : (j : ℕ) (z : X) → j < suc i → slice_get (y ∷ xs) j ≡ Some z → ¬ passes z
      before zero z below at does = not (subst passes (sym (same_Some y z at)) does)
      before (suc j) z below at does = is.none_before j z (omega arith) at does

-- what a name means
module _ {X Y : Type 0} (declared_by : X → Declaration) (other_by : Y → Declaration) (name : List ℕ) (xs : List X) (others : List Y) where
  pub meant : (i : ℕ) (x : X) → IsFirst (λ y. (declared_by y).name ≡ name) xs i x → Every (λ y. (other_by y).name ≢ name) others →
      IsMeant declared_by other_by name xs others i x
  meant i x first none = record { first = first; sooner = λ other has same. absurd (every_of (λ y. (other_by y).name ≢ name) others other none has same) }

  pub not_meant : (i : ℕ) (x : X) → Every (λ y. (declared_by y).name ≢ name) xs → ¬ IsMeant declared_by other_by name xs others i x
  not_meant i x none is = every_at (λ y. (declared_by y).name ≢ name) xs i x none is.first.there is.first.does
