-- Sets of types, into some of which one more type is put.
use Rattle.std.proofs.Common.{◌≡◌, ◌≢◌, ◌<◌, ◌+◌, ◌⊎◌, ◌↔◌, ℕ, zero, suc, true, ◌==◌, ◌||◌, List, [], ◌∷◌, ◌++◌, Some, length, take, slice_get, slice_set, get_or, Contains, inl, inr, refl, sym, ap, ◌∙◌, subst, true≢false, arith, length-append, length-set}
use Rattle.std.specs.FinSet.{FinSet, contains, insert, empty, contains-insert, contains-empty}
use Rattle.std.specs.Ordering.{nat_cmp, eq_by_cmp}
use Rattle.std.specs.Cmp.{unsigned_tied}
use Rattle.std.proofs.lemmas.Cmp.{nat_cmp_total}
use Rattle.std.proofs.lemmas.Bool.{cases_eq, cases_lt, eqb-true, eq-eqb, or_cases, or_left, or_right}
use Rattle.std.proofs.lemmas.List.{take_more}
use Rattle.std.proofs.lemmas.List.Elements.{Contains-append_left, Contains-push, Contains-push_cases}
use Rattle.std.proofs.lemmas.Option.{same_Some, none-some, slice_get_within, slice_get-get_or}
use Rattle.lw_grammar.specs.declared.grammar.Grammar.{Grammar}
use Rattle.lw_grammar.specs.Subtypes.{IsSubtype}
use Rattle.lw_numbers.specs.Numbering.{type_names}
use Rattle.lw_numbers.specs.Kinship.{TypeTable, StandsBelow, AreSubtypesOf}
use Rattle.lw_numbers.specs.Kinship as kinship
use Rattle.lw_types.specs.Sets.{Sets, InSet, AreEmptySets, WidensSets, IsOrBelow, IsOnlyAt, PutsType, AreSetsOf, AreNumbersBelow}

-- ---- one set of a list is replaced

module _ {A : Type 0} where
  set_same : (xs : List A) (n : ℕ) (a b : A) → slice_get xs n ≡ Some b → slice_get (slice_set xs n a) n ≡ Some a
  set_same [] n a b is = absurd (none-some b is)
  set_same (x ∷ xs) zero a b is = refl
  set_same (x ∷ xs) (suc n) a b is = set_same xs n a b is

  set_other : (xs : List A) (n m : ℕ) (a : A) → m ≢ n → slice_get (slice_set xs n a) m ≡ slice_get xs m
  set_other [] n m a apart = refl
  set_other (x ∷ xs) zero zero a apart = absurd (apart refl)
  set_other (x ∷ xs) zero (suc m) a apart = refl
  set_other (x ∷ xs) (suc n) zero a apart = refl
  set_other (x ∷ xs) (suc n) (suc m) a apart = set_other xs n m a (λ is. apart (ap suc is))

-- what is in a set that one more type was put into
inserted : (s : FinSet nat_cmp) (k q : ℕ) → contains (insert s k) q ≡ true → (contains s q ≡ true) ⊎ (q ≡ k)
inserted s k q is = elim (or_cases (q == k) (contains s q) (sym (ap (λ b. b || contains s q) (unsigned_tied q k)) ∙ sym (contains-insert nat_cmp_total s k q) ∙ is)) [
  | inl same ↦ inr (eqb-true q k same)
  | inr had ↦ inl had
]

insert_keeps : (s : FinSet nat_cmp) (k q : ℕ) → contains s q ≡ true → contains (insert s k) q ≡ true
insert_keeps s k q had = contains-insert nat_cmp_total s k q ∙ or_right (eq_by_cmp nat_cmp q k) (contains s q) had

insert_has : (s : FinSet nat_cmp) (k q : ℕ) → q ≡ k → contains (insert s k) q ≡ true
insert_has s k q same = contains-insert nat_cmp_total s k q ∙ or_left (eq_by_cmp nat_cmp q k) (contains s q) (unsigned_tied q k ∙ eq-eqb q k same)

-- ---- a type is put into the set of one

pub widened : (sets : Sets) (high low : ℕ) (s : FinSet nat_cmp) → slice_get sets high ≡ Some s → WidensSets (λ h. h ≡ high) low sets (slice_set sets high (insert s low))
widened sets high low s there = record { all = length-set sets high (insert s low); exact = λ h l. (before h l, after h l) }
  where
    new : Sets
    new = slice_set sets high (insert s low)

    at_high : slice_get new high ≡ Some (insert s low)
    at_high = set_same sets high (insert s low) s there

    before : (h l : ℕ) → InSet new h l → InSet sets h l ⊎ ((l ≡ low) × (h < length sets) × (h ≡ high))
    before h l in' = elim (cases_eq h high) [
      | inl same ↦
          let is : in'.set ≡ insert s low = same_Some in'.set (insert s low) (sym in'.there ∙ ap (slice_get new) same ∙ at_high) in
          elim (inserted s low l (ap (λ x. contains x l) (sym is) ∙ in'.has)) [
            | inl had ↦ inl (record { set = s; there = ap (slice_get sets) same ∙ there; has = had })
            | inr now ↦ inr (now, subst (λ k. k < length sets) (sym same) (slice_get_within sets high s there), same)
          ]
      | inr apart ↦ inl (record { set = in'.set; there = sym (set_other sets high h (insert s low) apart) ∙ in'.there; has = in'.has })
    ]

    after : (h l : ℕ) → InSet sets h l ⊎ ((l ≡ low) × (h < length sets) × (h ≡ high)) → InSet new h l
    after h l (inl in') = elim (cases_eq h high) [
      | inl same ↦
          let is : in'.set ≡ s = same_Some in'.set s (sym in'.there ∙ ap (slice_get sets) same ∙ there) in
          record { set = insert s low; there = ap (slice_get new) same ∙ at_high; has = insert_keeps s low l (ap (λ x. contains x l) (sym is) ∙ in'.has) }
      | inr apart ↦ record { set = in'.set; there = set_other sets high h (insert s low) apart ∙ in'.there; has = in'.has }
    ]
    after h l (inr (now, inside, same)) = record { set = insert s low; there = ap (slice_get new) same ∙ at_high; has = insert_has s low l now }

-- ---- empty sets

pub one_empty_more : (count : ℕ) (sets : Sets) → AreEmptySets count sets → AreEmptySets (count + 1) (sets ++ empty ∷ [])
one_empty_more count sets are = record { all = length-append sets (empty ∷ []) ∙ ap (λ n. n + 1) are.all; none = λ high low in'. from high low in' (by sets high in'.set in'.there) }
  where
    by : (xs : Sets) (n : ℕ) (s : FinSet nat_cmp) → slice_get (xs ++ empty ∷ []) n ≡ Some s → (slice_get xs n ≡ Some s) ⊎ (s ≡ empty)
    by [] zero s at = inr (sym (same_Some empty s at))
    by [] (suc n) s at = absurd (none-some s at)
    by (x ∷ xs) zero s at = inl at
    by (x ∷ xs) (suc n) s at = by xs n s at

    from : (high low : ℕ) (in' : InSet (sets ++ empty ∷ []) high low) → (slice_get sets high ≡ Some in'.set) ⊎ (in'.set ≡ empty) → ⊥
    from high low in' (inl before) = are.none high low (record { set = in'.set; there = before; has = in'.has })
    from high low in' (inr last) = true≢false (sym in'.has ∙ ap (λ s. contains s low) last ∙ contains-empty nat_cmp low)

-- ---- into those of some, one after the other

pub widens_none : {P : ℕ → Type 0} {low : ℕ} {a : Sets} → ((h : ℕ) → h < length a → ¬ P h) → WidensSets P low a a
widens_none {P} {low} {a} none = record { all = refl; exact = λ h l. (λ in'. inl in', λ either. elim either [ inl in' ↦ in' | inr (now, inside, so) ↦ absurd (none h inside so) ]) }

pub widens_then : {P Q : ℕ → Type 0} {low : ℕ} {a b c : Sets} → WidensSets P low a b → WidensSets Q low b c → WidensSets (λ h. P h ⊎ Q h) low a c
widens_then {P} {Q} {low} {a} {b} {c} one other = record { all = other.all ∙ one.all; exact = λ h l. (before h l, after h l) }
  where
    before : (h l : ℕ) → InSet c h l → InSet a h l ⊎ ((l ≡ low) × (h < length a) × (P h ⊎ Q h))
    before h l in' = elim ((other.exact h l).0 in') [
      | inl was ↦ elim ((one.exact h l).0 was) [ inl first ↦ inl first | inr (now, inside, so) ↦ inr (now, inside, inl so) ]
      | inr (now, inside, so) ↦ inr (now, subst (λ n. h < n) one.all inside, inr so)
    ]

    after : (h l : ℕ) → InSet a h l ⊎ ((l ≡ low) × (h < length a) × (P h ⊎ Q h)) → InSet c h l
    after h l (inl first) = (other.exact h l).1 (inl ((one.exact h l).1 (inl first)))
    after h l (inr (now, inside, inl so)) = (other.exact h l).1 (inl ((one.exact h l).1 (inr (now, inside, so))))
    after h l (inr (now, inside, inr so)) = (other.exact h l).1 (inr (now, subst (λ n. h < n) (sym one.all) inside, so))

pub widens_iff : {P Q : ℕ → Type 0} {low : ℕ} {a b : Sets} → ((h : ℕ) → P h ↔ Q h) → WidensSets P low a b → WidensSets Q low a b
widens_iff {P} {Q} {low} {a} {b} same widens = record {
  all = widens.all;
  exact = λ h l. (
    λ in'. elim ((widens.exact h l).0 in') [ inl was ↦ inl was | inr (now, inside, so) ↦ inr (now, inside, (same h).0 so) ],
    λ either. elim either [ inl was ↦ (widens.exact h l).1 (inl was) | inr (now, inside, so) ↦ (widens.exact h l).1 (inr (now, inside, (same h).1 so)) ],
  );
}

-- a turn over one more of a list
pub widens_more : {low : ℕ} {a b c : Sets} (xs : List ℕ) (i x : ℕ) → i < length xs → x ≡ get_or xs i x → WidensSets (Contains (take i xs)) low a b → WidensSets (λ h. h ≡ x) low b c →
    WidensSets (Contains (take (i + 1) xs)) low a c
widens_more {low} {a} {c = c} xs i x inside is before now =
    let P : List ℕ → Type 0 = λ ys. WidensSets (Contains ys) low a c in
    let Q : ℕ → Type 0 = λ y. WidensSets (Contains (take i xs ++ y ∷ [])) low a c in
    subst P (sym (take_more xs i x inside)) (subst Q is (widens_iff (λ h. (into h, from h)) (widens_then before now)))
  where
    into : (h : ℕ) → Contains (take i xs) h ⊎ (h ≡ x) → Contains (take i xs ++ x ∷ []) h
    into h (inl has) = Contains-append_left (take i xs) (x ∷ []) h has
    into h (inr same) = let R : ℕ → Type 0 = Contains (take i xs ++ x ∷ []) in subst R (sym same) (Contains-push (take i xs) x)

    from : (h : ℕ) → Contains (take i xs ++ x ∷ []) h → Contains (take i xs) h ⊎ (h ≡ x)
    from h has = elim (Contains-push_cases (take i xs) x h has) [ inl had ↦ inl had | inr same ↦ inr (sym same) ]

-- ---- one type after the other

-- the type has its name in the table
get_in_front : (xs ys : List (List ℕ)) (n : ℕ) (x : List ℕ) → slice_get xs n ≡ Some x → slice_get (xs ++ ys) n ≡ Some x
get_in_front [] ys n x at = absurd (none-some x at)
get_in_front (z ∷ xs) ys zero x at = at
get_in_front (z ∷ xs) ys (suc n) x at = get_in_front xs ys n x at

pub name_at : (g : Grammar) (table : TypeTable) → AreSubtypesOf g table → (t : ℕ) (name : List ℕ) → slice_get (type_names g) t ≡ Some name → slice_get table.names t ≡ Some name
name_at g table are t name at = ap (λ names. slice_get names t) are.begins ∙ get_in_front (type_names g) are.others t name at

pub puts_type : (table : TypeTable) (t place : ℕ) (name row : List ℕ) (old new : Sets) → slice_get table.names t ≡ Some name →
    ((i : ℕ) → slice_get table.names i ≡ Some name → Some place ≡ Some i) → slice_get table.above place ≡ Some row →
    WidensSets (λ high. (high ≡ t) ⊎ Contains row high) t old new → PutsType table t old new
puts_type table t place name row old new at one there widens = record {
  row = row;
  there = ap (slice_get table.above) (sym (same_Some place t (one t at))) ∙ there;
  only = λ i other at_t at_i.
      let named : other ≡ name = same_Some other name (sym at_t ∙ at) in
      sym (same_Some place i (one i (at_i ∙ ap Some named))) ∙ same_Some place t (one t at);
  widens = widens;
}

pub none_done : (table : TypeTable) (count : ℕ) (sets : Sets) → AreEmptySets count sets → AreSetsOf table count 0 sets
none_done table count sets empty = record {
  all = empty.all;
  only = λ t before. absurd (omega (arith, before));
  exact = λ high low. (λ in'. absurd (empty.none high low in'), λ (below, inside, is). absurd (omega (arith, below)));
}

module _ (table : TypeTable) (count done : ℕ) (old new : Sets) (before : AreSetsOf table count done old) (puts : PutsType table done old new) where
  of_done : (high low : ℕ) → low ≡ done → (high ≡ done) ⊎ Contains puts.row high → IsOrBelow table low high
  of_done high low same (inl is) = inl (is ∙ sym same)
  of_done high low same (inr has) = inr (puts.row, ap (slice_get table.above) same ∙ puts.there, has)

  now_done : (high low : ℕ) → low ≡ done → IsOrBelow table low high → (high ≡ done) ⊎ Contains puts.row high
  now_done high low same (inl is) = inl (is ∙ same)
  now_done high low same (inr (other, there, has)) =
      inr (subst (λ r. Contains r high) (same_Some other puts.row (sym there ∙ ap (slice_get table.above) same ∙ puts.there)) has)

  from : (high low : ℕ) → InSet new high low → (low < done + 1) × (high < count) × IsOrBelow table low high
  from high low in' = elim ((puts.widens.exact high low).0 in') [
    | inl was ↦ let of = (before.exact high low).0 was in (omega (arith, of.0), of.1, of.2)
    | inr (same, inside, so) ↦ (omega (arith, same), subst (λ n. high < n) before.all inside, of_done high low same so)
  ]

  into : (high low : ℕ) → (low < done + 1) × (high < count) × IsOrBelow table low high → InSet new high low
  into high low (below, inside, is) = elim (cases_lt low done) [
    | inl lt ↦ (puts.widens.exact high low).1 (inl ((before.exact high low).1 (lt, inside, is)))
    | inr ge ↦
        let same : low ≡ done = omega (arith, below, ge) in
        (puts.widens.exact high low).1 (inr (same, subst (λ n. high < n) (sym before.all) inside, now_done high low same is))
  ]

  only_so_far : (t : ℕ) → t < done + 1 → IsOnlyAt table t
  only_so_far t below = elim (cases_lt t done) [
    | inl lt ↦ before.only t lt
    | inr ge ↦ let same : done ≡ t = omega (arith, below, ge) in subst (IsOnlyAt table) same puts.only
  ]

  pub one_done : AreSetsOf table count (done + 1) new
  one_done = record { all = puts.widens.all ∙ before.all; only = only_so_far; exact = λ high low. (from high low, into high low) }

-- ---- what the sets say of the grammar's types

module _ (g : Grammar) (table : TypeTable) (sets : Sets) (are : AreSubtypesOf g table) (of : AreSetsOf table (length (type_names g)) (length (type_names g)) sets) where
  pub numbers_below : (t : ℕ) (high : List ℕ) (set : FinSet nat_cmp) → slice_get (type_names g) t ≡ Some high → slice_get sets t ≡ Some set → AreNumbersBelow g high set
  numbers_below t high set named there low = (from_set, into_set)
    where
      inside : t < length (type_names g)
      inside = slice_get_within (type_names g) t high named

      by_table : (name : List ℕ) → slice_get (type_names g) low ≡ Some name → IsOrBelow table low t → StandsBelow table name high
      by_table name at (inl same) =
          let is : name ≡ high = same_Some name high (sym at ∙ ap (slice_get (type_names g)) (sym same) ∙ named) in
          subst (λ n. StandsBelow table n high) (sym is) (kinship.same)
      by_table name at (inr (row, in_rows, has)) = kinship.below low t row (name_at g table are low name at) (name_at g table are t high named) in_rows has

      from_set : contains set low ≡ true → (name : List ℕ) × (slice_get (type_names g) low ≡ Some name) × IsSubtype g name high
      from_set has =
          let is = (of.exact t low).0 (record { set = set; there = there; has = has }) in
          let name = get_or (type_names g) low [] in
          let at = slice_get-get_or (type_names g) low [] is.0 in
          (name, at, (are.exact name high).1 (by_table name at is.2))

      stands : (name : List ℕ) → slice_get (type_names g) low ≡ Some name → StandsBelow table name high → IsOrBelow table low t
      stands name at kinship.same = inl (sym (of.only t inside low high (name_at g table are t high named) (name_at g table are low name at)))
      stands name at (kinship.below i j ups low_at high_at in_rows has) =
          let low_is : i ≡ low = of.only low (slice_get_within (type_names g) low name at) i name (name_at g table are low name at) low_at in
          let high_is : j ≡ t = of.only t inside j high (name_at g table are t high named) high_at in
          inr (ups, ap (slice_get table.above) (sym low_is) ∙ in_rows, subst (Contains ups) high_is has)

      into_set : (name : List ℕ) × (slice_get (type_names g) low ≡ Some name) × IsSubtype g name high → contains set low ≡ true
      into_set (name, at, is) =
          let in' = (of.exact t low).1 (slice_get_within (type_names g) low name at, inside, stands name at ((are.exact name high).0 is)) in
          subst (λ s. contains s low ≡ true) (same_Some in'.set set (sym in'.there ∙ there)) in'.has
