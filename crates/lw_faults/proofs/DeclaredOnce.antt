-- What is not declared again is what its name means, and the other way round.
use Rattle.std.proofs.Common.{◌≡◌, ◌≢◌, ◌<◌, ◌≤◌, ◌⊎◌, inl, inr, ℕ, zero, suc, Bool, true, false, List, [], ◌∷◌, Option, Some, None, slice_get, Contains, bytes_eq, refl, sym, ◌∙◌, subst, arith}
use Rattle.std.proofs.lemmas.Bool.{cases_lt}
use Rattle.std.proofs.lemmas.Option.{none-some, same_Some}
use Rattle.std.proofs.lemmas.Slice.Eq.{bytes_eq-Decides}
use Rattle.lw_grammar.specs.Named.{Declaration, StandsBefore, IsMeant}
use Rattle.lw_faults.specs.Names.{IsDeclaredAgain}
use Rattle.lw_faults.specs.Names as names
use Rattle.lw_grammar.proofs.Every.{differ}
use Rattle.lw_base.proofs.Lists.{there, the_first, first_or_later, place_of, among}
use Rattle.lw_faults.proofs.AloneLemmas.{none_there}

module _ (one other : Declaration) where
  abbrev Stands : Type 0
  Stands = StandsBefore one other ⊎ (¬ StandsBefore one other)

  in_file : one.file ≡ other.file → (one.span.start < other.span.start) ⊎ (other.span.start ≤ one.span.start) → Stands
  in_file same (inl below) = inl (inr (same, below))
  in_file same (inr least) = inr not
    where
      not : ¬ StandsBefore one other
      not (inl below) = omega (arith, below, same)
      not (inr (also, below)) = omega (arith, below, least)

  -- whether the one stands before the other
  stands : Stands
  stands = by (cases_lt one.file other.file) (cases_lt other.file one.file)
    where
      by : (one.file < other.file) ⊎ (other.file ≤ one.file) → (other.file < one.file) ⊎ (one.file ≤ other.file) → Stands
      by (inl below) any = inl (inl below)
      by (inr least) (inl below) = inr not
        where
          not : ¬ StandsBefore one other
          not (inl above) = omega (arith, above, least)
          not (inr (same, start)) = omega (arith, same, below)
      by (inr least) (inr most) = in_file (omega (arith, least, most)) (cases_lt one.span.start other.span.start)

same_or_apart : (a b : List ℕ) → (a ≡ b) ⊎ (a ≢ b)
same_or_apart a b = by (bytes_eq a b) refl
  where
    by : (told : Bool) → bytes_eq a b ≡ told → (a ≡ b) ⊎ (a ≢ b)
    by true is = inl ((bytes_eq-Decides a b).0 is)
    by false is = inr (differ a b is)

module _ {X Y : Type 0} (declared_by : X → Declaration) (other_by : Y → Declaration) (xs : List X) (others : List Y) where
  module _ (i : ℕ) (x : X) where
    abbrev IsNamed : Declaration → Type 0
    IsNamed d = d.name ≡ (declared_by x).name

    -- ---- in its own list

    abbrev HasEarlier : ℕ → Type 0
    HasEarlier n = (j : ℕ) × (y : X) × (j < n) × (slice_get xs j ≡ Some y) × IsNamed (declared_by y)

    abbrev HasNoEarlier : ℕ → Type 0
    HasNoEarlier n = (j : ℕ) (y : X) → j < n → slice_get xs j ≡ Some y → ¬ IsNamed (declared_by y)

    none_below : (n : ℕ) → HasNoEarlier n → ((y : X) → slice_get xs n ≡ Some y → ¬ IsNamed (declared_by y)) → HasNoEarlier (suc n)
    none_below n none here j y below at = elim (cases_lt j n) [
      | inl less ↦ none j y less at
      | inr most ↦ let same : j ≡ n = omega (arith, below, most) in here y (subst (λ k. slice_get xs k ≡ Some y) same at)
    ]

    earlier : (n : ℕ) → HasEarlier n ⊎ HasNoEarlier n
    earlier zero = inr (λ j y below. absurd (omega (arith, below)))
    earlier (suc n) = by (earlier n) (slice_get xs n) refl
      where
        by : HasEarlier n ⊎ HasNoEarlier n → (o : Option X) → slice_get xs n ≡ o → HasEarlier (suc n) ⊎ HasNoEarlier (suc n)
        by (inl (j, y, below, at, same)) o is = inl (j, y, omega (arith, below), at, same)
        by (inr none) None is = inr (none_below n none (λ y at. absurd (none-some y (sym is ∙ at))))
        by (inr none) (Some y) is = elim (same_or_apart (declared_by y).name (declared_by x).name) [
          | inl same ↦ inl (n, y, omega arith, is, same)
          | inr apart ↦ inr (none_below n none (λ z at. subst (λ w. ¬ IsNamed (declared_by w)) (same_Some y z (sym is ∙ at)) apart))
        ]

    -- ---- in the other list

    abbrev IsAhead : Y → Type 0
    IsAhead other = IsNamed (other_by other) → StandsBefore (declared_by x) (other_by other)

    abbrev HasOther : List Y → Type 0
    HasOther ys = (other : Y) × Contains ys other × IsNamed (other_by other) × (¬ StandsBefore (declared_by x) (other_by other))

    abbrev IsAheadOf : List Y → Type 0
    IsAheadOf ys = (other : Y) → Contains ys other → IsAhead other

    ahead_of_more : (y : Y) (ys : List Y) → IsAhead y → IsAheadOf ys → IsAheadOf (y ∷ ys)
    ahead_of_more y ys first all other has = elim (first_or_later y ys has) [
      | inl is ↦ subst IsAhead is first
      | inr later ↦ all other later
    ]

    ahead : (ys : List Y) → HasOther ys ⊎ IsAheadOf ys
    ahead [] = inr (λ other has. absurd (none_there other has))
    ahead (y ∷ ys) = by (ahead ys) (same_or_apart (other_by y).name (declared_by x).name) (stands (declared_by x) (other_by y))
      where
        by : HasOther ys ⊎ IsAheadOf ys → IsNamed (other_by y) ⊎ (¬ IsNamed (other_by y)) → Stands (declared_by x) (other_by y) →
            HasOther (y ∷ ys) ⊎ IsAheadOf (y ∷ ys)
        by (inl (other, has, same, behind)) named placed = inl (other, there y ys other has, same, behind)
        by (inr all) (inl same) (inr behind) = inl (y, the_first y ys, same, behind)
        by (inr all) (inl same) (inl before) = inr (ahead_of_more y ys (λ called. before) all)
        by (inr all) (inr apart) placed = inr (ahead_of_more y ys (λ called. absurd (apart called)) all)

    again_or_meant : slice_get xs i ≡ Some x → IsDeclaredAgain declared_by other_by xs others (declared_by x)
        ⊎ IsMeant declared_by other_by (declared_by x).name xs others i x
    again_or_meant at = by (earlier i) (ahead others)
      where
        by : HasEarlier i ⊎ HasNoEarlier i → HasOther others ⊎ IsAheadOf others → IsDeclaredAgain declared_by other_by xs others (declared_by x)
            ⊎ IsMeant declared_by other_by (declared_by x).name xs others i x
        by (inl (j, y, below, is, same)) any = inl (names.in_list j i y x below is at same)
        by (inr none) (inl (other, has, same, behind)) = inl (names.across x other (among xs i x at) has same behind)
        by (inr none) (inr all) = inr (record { first = record { there = at; does = refl; none_before = none }; sooner = all })

    pub meant_once : slice_get xs i ≡ Some x → ¬ IsDeclaredAgain declared_by other_by xs others (declared_by x) →
        IsMeant declared_by other_by (declared_by x).name xs others i x
    meant_once at once = elim (again_or_meant at) [ inl is ↦ absurd (once is) | inr is ↦ is ]

    pub again_if_not_meant : slice_get xs i ≡ Some x → ¬ IsMeant declared_by other_by (declared_by x).name xs others i x →
        IsDeclaredAgain declared_by other_by xs others (declared_by x)
    again_if_not_meant at other = elim (again_or_meant at) [ inl is ↦ is | inr is ↦ absurd (other is) ]

  -- what is declared again stands at a place that its name does not mean
  pub again_at : {again : Declaration} → IsDeclaredAgain declared_by other_by xs others again →
      (i : ℕ) × (x : X) × (slice_get xs i ≡ Some x) × (¬ IsMeant declared_by other_by (declared_by x).name xs others i x) × (again ≡ declared_by x)
  again_at (names.in_list i j first second below at_i at_j same) = (j, second, at_j, (λ meant. meant.first.none_before i first below at_i same), refl)
  again_at (names.across second other has there same behind) =
      let found = place_of xs second has in (found.0, second, found.1, (λ meant. behind (meant.sooner other there same)), refl)
