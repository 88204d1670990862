-- Tables of sets, one of whose sets is widened.
use Rattle.std.proofs.Common.{Result, Ok, Err, OnOk, IfOk, ◌≡◌, ◌≢◌, ◌↔◌, ◌⊎◌, ◌+◌, ◌-◌, ◌^◌, ◌<◌, ℕ, zero, suc, Bool, true, false, List, [], ◌∷◌, ◌++◌, Some, length, slice_get, slice_set, Contains, refl, sym, ap, ◌∙◌, subst, inl, inr, length-set, arith, true≢false}
use Rattle.std.specs.HashSet.{HashSet}
use Rattle.std.proofs.lemmas.Bool.{cases_eq}
use Rattle.std.proofs.lemmas.Option.{same_Some, none-some}
use Rattle.indexmap.specs.IndexSet.{insert_all}
use Rattle.lw_flow.specs.Rows.{InTable, RowPut, AreEmptyRows, TakesRoom, room}
use Rattle.lw_flow.proofs.SetLemmas.{in_all, nothing_in}

module _ {A : Type 0} where
  get_set_same : (xs : List A) (n : ℕ) (a b : A) → slice_get xs n ≡ Some b → slice_get (slice_set xs n a) n ≡ Some a
  get_set_same [] n a b is = absurd (none-some b is)
  get_set_same (x ∷ xs) zero a b is = refl
  get_set_same (x ∷ xs) (suc n) a b is = get_set_same xs n a b is

  get_set_other : (xs : List A) (n m : ℕ) (a : A) → m ≢ n → slice_get (slice_set xs n a) m ≡ slice_get xs m
  get_set_other [] n m a apart = refl
  get_set_other (x ∷ xs) zero zero a apart = absurd (apart refl)
  get_set_other (x ∷ xs) zero (suc m) a apart = refl
  get_set_other (x ∷ xs) (suc n) zero a apart = refl
  get_set_other (x ∷ xs) (suc n) (suc m) a apart = get_set_other xs n m a (λ is. apart (ap suc is))

  -- what stands in a list with one more at its end
  pub get_end : (xs : List A) (x : A) (n : ℕ) (y : A) → slice_get (xs ++ x ∷ []) n ≡ Some y → (slice_get xs n ≡ Some y) ⊎ ((n ≡ length xs) × (y ≡ x))
  get_end [] x zero y is = inr (refl, sym (same_Some x y is))
  get_end [] x (suc n) y is = absurd (none-some y is)
  get_end (z ∷ xs) x zero y is = inl is
  get_end (z ∷ xs) x (suc n) y is = elim (get_end xs x n y is) [ inl before ↦ inl before | inr (last, same) ↦ inr (ap suc last, same) ]

  pub get_before : (xs : List A) (x : A) (n : ℕ) (y : A) → slice_get xs n ≡ Some y → slice_get (xs ++ x ∷ []) n ≡ Some y
  get_before [] x n y is = absurd (none-some y is)
  get_before (z ∷ xs) x zero y is = is
  get_before (z ∷ xs) x (suc n) y is = get_before xs x n y is

module _ {X S : Type 0} {eq : X → X → Bool} (exact : (x y : X) → eq x y ≡ true → x ≡ y) {n : ℕ} {xs : List X} {grown : Bool} {old new : List (HashSet X S)}
    (put : RowPut eq n xs grown old new) where
  in_row : (m : ℕ) (x : X) → m ≡ n → InTable new m x → Contains put.after.keys x
  in_row m x same there =
      let at : slice_get new n ≡ Some there.row = ap (slice_get new) (sym same) ∙ there.there in
      let is : put.after ≡ there.row =
      same_Some put.after there.row (sym (get_set_same old n put.after put.before put.there) ∙ ap (λ t. slice_get t n) (sym put.is) ∙ at) in
      subst (λ (r : HashSet X S). Contains r.keys x) (sym is) there.has

  elsewhere : (m : ℕ) → m ≢ n → slice_get new m ≡ slice_get old m
  elsewhere m apart = ap (λ t. slice_get t m) put.is ∙ get_set_other old n m put.after apart

  at_row : (x : X) → Contains put.after.keys x → InTable new n x
  at_row x has = record { row = put.after; there = ap (λ t. slice_get t n) put.is ∙ get_set_same old n put.after put.before put.there; has = has }

  old_row : (m : ℕ) (x : X) → m ≡ n → Contains put.before.keys x → InTable old m x
  old_row m x same has = record { row = put.before; there = ap (slice_get old) same ∙ put.there; has = has }

  was_in_row : (m : ℕ) (x : X) → m ≡ n → InTable old m x → Contains put.before.keys x
  was_in_row m x same there =
      let is : there.row ≡ put.before = same_Some there.row put.before (sym there.there ∙ ap (slice_get old) same ∙ put.there) in
      subst (λ (r : HashSet X S). Contains r.keys x) is there.has

  grows : (x : X) → Contains put.after.keys x ↔ (Contains put.before.keys x ⊎ Contains xs x)
  grows x = subst (λ keys. Contains keys x ↔ (Contains put.before.keys x ⊎ Contains xs x)) (sym put.put) (in_all exact put.before.keys xs x)

  pub row_put : (m : ℕ) (x : X) → InTable new m x ↔ (InTable old m x ⊎ ((m ≡ n) × Contains xs x))
  row_put m x = (
    λ there. elim (cases_eq m n) [
      | inl same ↦ elim ((grows x).0 (in_row m x same there)) [ inl was ↦ inl (old_row m x same was) | inr more ↦ inr (same, more) ]
      | inr apart ↦ inl (record { row = there.row; there = sym (elsewhere m apart) ∙ there.there; has = there.has })
    ],
    λ either. elim either [
      | inl there ↦ elim (cases_eq m n) [
        | inl same ↦ subst (λ k. InTable new k x) (sym same) (at_row x ((grows x).1 (inl (was_in_row m x same there))))
        | inr apart ↦ record { row = there.row; there = elsewhere m apart ∙ there.there; has = there.has }
      ]
      | inr (same, more) ↦ subst (λ k. InTable new k x) (sym same) (at_row x ((grows x).1 (inr more)))
    ],
  )

  pub row_kept : grown ≡ false → (m : ℕ) (x : X) → InTable new m x → InTable old m x
  row_kept not m x there = elim (cases_eq m n) [
    | inl same ↦ old_row m x same (subst (λ keys. Contains keys x) (put.none not) (in_row m x same there))
    | inr apart ↦ record { row = there.row; there = sym (elsewhere m apart) ∙ there.there; has = there.has }
  ]

  pub row_length : length new ≡ length old
  row_length = ap length put.is ∙ length-set old n put.after

module _ {X S : Type 0} where
  pub none_behind : (table : List (HashSet X S)) (row : HashSet X S) → row.keys ≡ [] → AreEmptyRows table → AreEmptyRows (table ++ row ∷ [])
  none_behind table row empty none n x there = elim (get_end table row n there.row there.there) [
    | inl at ↦ none n x (record { row = there.row; there = at; has = there.has })
    | inr (_, is) ↦ nothing_in x (subst (λ keys. Contains keys x) (ap (λ (r : HashSet X S). r.keys) is ∙ empty) there.has)
  ]

module _ {X S E : Type 0} (eq : X → X → Bool) (n : ℕ) (xs : List X) (old : List (HashSet X S)) (before after : HashSet X S) (there : slice_get old n ≡ Some before) where
  pub row_from : (r : Result Bool E) → OnOk r (after.keys ≡ insert_all eq before.keys xs) → IfOk r (λ grown. grown ≡ false → after.keys ≡ before.keys) →
      IfOk r (λ grown. grown ≡ true → (length before.keys < length after.keys) × (length after.keys < 2 ^ 64)) →
      IfOk r (λ grown. RowPut eq n xs grown old (slice_set old n after))
  row_from (Ok grown) put none more = record { before = before; after = after; there = there; is = refl; put = put; none = none; more = more }
  row_from (Err e) put none more = tt

-- a row of the table
module _ {X S : Type 0} (table : List (HashSet X S)) (n : ℕ) (row : HashSet X S) (at : slice_get table n ≡ Some row) (xs : List X) (same : xs ≡ row.keys) where
  pub row_exact : (x : X) → Contains xs x ↔ InTable table n x
  row_exact x = (
    λ has. record { row = row; there = at; has = subst (λ ys. Contains ys x) same has },
    λ there.
        let is : row ≡ there.row = same_Some row there.row (sym at ∙ there.there) in
        subst (λ ys. Contains ys x) (sym (same ∙ ap (λ (r : HashSet X S). r.keys) is)) there.has,
  )

-- ---- the room of a table

module _ {X S : Type 0} where
  room_set : (table : List (HashSet X S)) (n : ℕ) (old new : HashSet X S) → slice_get table n ≡ Some old →
      room (slice_set table n new) + (2 ^ 64 - length old.keys) ≡ room table + (2 ^ 64 - length new.keys)
  unfolding room
  room_set [] n old new at = absurd (none-some old at)
  room_set (row ∷ rows) zero old new at =
      let same : length row.keys ≡ length old.keys = ap (λ (r : HashSet X S). length r.keys) (same_Some row old at) in
      let after : room (slice_set (row ∷ rows) zero new) ≡ (2 ^ 64 - length new.keys) + room rows = refl in
      let before : room (row ∷ rows) ≡ (2 ^ 64 - length row.keys) + room rows = refl in
      omega (arith, same, after, before)
  room_set (row ∷ rows) (suc n) old new at =
      let rest = room_set rows n old new at in
      let after : room (slice_set (row ∷ rows) (suc n) new) ≡ (2 ^ 64 - length row.keys) + room (slice_set rows n new) = refl in
      let before : room (row ∷ rows) ≡ (2 ^ 64 - length row.keys) + room rows = refl in
      omega (arith, rest, after, before)

module _ {X S : Type 0} {eq : X → X → Bool} {n : ℕ} {xs : List X} {grown : Bool} {old new : List (HashSet X S)} (put : RowPut eq n xs grown old new) where
  pub row_room : TakesRoom grown (room old) (room new)
  row_room = by grown refl
    where
      both : room new + (2 ^ 64 - length put.before.keys) ≡ room old + (2 ^ 64 - length put.after.keys)
      both = ap (λ t. room t + (2 ^ 64 - length put.before.keys)) put.is ∙ room_set old n put.before put.after put.there

      by : (b : Bool) → grown ≡ b → TakesRoom grown (room old) (room new)
      by true grew =
          let more = put.more grew in
          record { most = omega (arith, both, more.0, more.1); less = λ _. omega (arith, both, more.0, more.1) }
      by false stayed =
          let same = ap length (put.none stayed) in
          record { most = omega (arith, both, same); less = λ grew. absurd (true≢false (sym grew ∙ stayed)) }

module _ {X S E : Type 0} (eq : X → X → Bool) (n : ℕ) (xs : List X) (old new : List (HashSet X S)) where
  pub room_put : (r : Result Bool E) → IfOk r (λ grown. RowPut eq n xs grown old new) → IfOk r (λ grown. TakesRoom grown (room old) (room new))
  room_put (Ok grown) put = row_room put
  room_put (Err e) put = tt

pub no_room_taken : (n : ℕ) → TakesRoom false n n
no_room_taken n = record { most = omega arith; less = λ is. absurd (true≢false (sym is)) }

pub room_step : (grown more after : Bool) (old mid new : ℕ) → TakesRoom grown old mid → TakesRoom more mid new →
    ((more ≡ true) × (after ≡ true)) ⊎ ((more ≡ false) × (after ≡ grown)) → TakesRoom after old new
room_step grown more after old mid new before one (inl (grew, _)) =
    let less = one.less grew in
    record { most = omega (arith, before.most, less); less = λ _. omega (arith, before.most, less) }
room_step grown more after old mid new before one (inr (_, same)) =
    record { most = omega (arith, before.most, one.most); less = λ is. let less = before.less (sym same ∙ is) in omega (arith, less, one.most) }
