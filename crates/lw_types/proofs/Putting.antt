-- The properties by what is put into them, with one put more.
use Rattle.std.proofs.Common.{◌≡◌, ◌≢◌, ℕ, List, [], ◌∷◌, ◌++◌, Bool, true, false, not, cond, ◌||◌, ◌==◌, nat_eq, Some, None, filter, refl, sym, ap, ap₂, ◌∙◌, subst}
use Rattle.std.specs.List.{flat_map, find, list_any}
use Rattle.std.specs.Option.{option_or}
use Rattle.std.proofs.lemmas.Bool.{true≢false, ne_eqb, eq-eqb}
use Rattle.std.proofs.lemmas.List.{append-nil}
use Rattle.std.proofs.lemmas.List.Concat.{flat_map-append}
use Rattle.std.proofs.lemmas.List.Elements.{filter-append}
use Rattle.std.proofs.lemmas.List.Folds.{find-append}
use Rattle.std.proofs.lemmas.Option.{none-some, same_Some}
use Rattle.lw_grammar.specs.declared.declared_types.ValueKind.{ValueKind}
use Rattle.lw_types.specs.FirstSeen.{FirstSeen}
use Rattle.lw_types.specs.Sightings.{Sighting}
use Rattle.lw_types.specs.Having.{is_new, values_put_in, ArePutInto}
use Rattle.lw_types.specs.Having as put
use Rattle.lw_types.specs.Gathered.{PutsIntoProperty, JoinsValues}
use Rattle.lw_types.specs.Gathered as into
use Rattle.lw_types.specs.declared.property_table.info.PropertyInfo.{PropertyInfo}
use Rattle.lw_types.proofs.Firsts.{first_joins, all_new, one_list}

-- ---- numbers that were had

same_number : (n : ℕ) → nat_eq n n ≡ true
same_number n = eq-eqb n n refl

-- one that was had is not new
pub had_now : (had : List ℕ) (n m : ℕ) → n ≡ m → is_new (m ∷ had) n ≡ false
had_now had n m is = ap (λ b. not (b || list_any (nat_eq n) had)) (subst (λ k. nat_eq n k ≡ true) is (same_number n))

pub new_still : (had : List ℕ) (n m : ℕ) → n ≢ m → is_new had n ≡ true → is_new (m ∷ had) n ≡ true
new_still had n m apart new = ap (λ b. not (b || list_any (nat_eq n) had)) (ne_eqb n m apart) ∙ new

pub had_still : (had : List ℕ) (n m : ℕ) → is_new had n ≡ false → is_new (m ∷ had) n ≡ false
had_still had n m was = by (nat_eq n m) (list_any (nat_eq n) had) was
  where
    by : (a b : Bool) → not b ≡ false → not (a || b) ≡ false
    by true b e = refl
    by false b e = e

pub new_apart : (had : List ℕ) (n m : ℕ) → is_new had n ≡ true → is_new had m ≡ false → n ≢ m
new_apart had n m new was is = true≢false (sym new ∙ ap (is_new had) is ∙ was)

-- ---- what is found first

module _ {X : Type 0} (test : X → Bool) where
  pub found_passes : (xs : List X) (x : X) → find test xs ≡ Some x → test x ≡ true
  found_passes [] x is = absurd (none-some x is)
  found_passes (y ∷ xs) x is = by (test y) refl is (found_passes xs x)
    where
      by : (b : Bool) → test y ≡ b → cond b (Some y) (find test xs) ≡ Some x → (find test xs ≡ Some x → test x ≡ true) → test x ≡ true
      by true e here behind = subst (λ z. test z ≡ true) (same_Some y x here) e
      by false e later behind = behind later

  pub found_still : (xs : List X) (x : X) (ys : List X) → find test xs ≡ Some x → find test (xs ++ ys) ≡ Some x
  found_still xs x ys is = find-append test xs ys ∙ ap (λ o. option_or o (find test ys)) is

  pub none_found : (xs : List X) (x : X) → find test xs ≡ None → test x ≡ false → find test (xs ++ x ∷ []) ≡ None
  none_found xs x none fails = find-append test xs (x ∷ []) ∙ ap (λ o. option_or o (find test (x ∷ []))) none ∙ ap (λ b. cond b (Some x) None) fails

  pub one_found : (xs : List X) (x : X) → find test xs ≡ None → test x ≡ true → find test (xs ++ x ∷ []) ≡ Some x
  one_found xs x none passes = find-append test xs (x ∷ []) ∙ ap (λ o. option_or o (find test (x ∷ []))) none ∙ ap (λ b. cond b (Some x) None) passes

  -- nothing passes where nothing is found
  pub none_passes : (x : X) (xs : List X) → find test (x ∷ xs) ≡ None → (test x ≡ false) × (find test xs ≡ None)
  none_passes x xs none = by (test x) refl none
    where
      by : (b : Bool) → test x ≡ b → cond b (Some x) (find test xs) ≡ None → (test x ≡ false) × (find test xs ≡ None)
      by true e here = absurd (none-some x (sym here))
      by false e later = (e, later)

-- ---- values of one put more

pub same_prop : (seen : List Sighting) (s : Sighting) (prop : ℕ) → s.prop ≡ prop → values_put_in (seen ++ s ∷ []) prop ≡ values_put_in seen prop ++ s.values
same_prop seen s prop is =
    ap (flat_map (λ (x : Sighting). x.values)) (filter-append (λ (x : Sighting). x.prop == prop) seen (s ∷ [])
    ∙ ap (λ b. filter (λ (x : Sighting). x.prop == prop) seen ++ cond b (s ∷ []) []) (subst (λ k. nat_eq s.prop k ≡ true) is (same_number s.prop)))
    ∙ flat_map-append (λ (x : Sighting). x.values) (filter (λ (x : Sighting). x.prop == prop) seen) (s ∷ [])
    ∙ ap (λ vs. values_put_in seen prop ++ vs) (append-nil s.values)

pub other_prop : (seen : List Sighting) (s : Sighting) (prop : ℕ) → s.prop ≢ prop → values_put_in (seen ++ s ∷ []) prop ≡ values_put_in seen prop
other_prop seen s prop apart =
    ap (flat_map (λ (x : Sighting). x.values)) (filter-append (λ (x : Sighting). x.prop == prop) seen (s ∷ [])
    ∙ ap (λ b. filter (λ (x : Sighting). x.prop == prop) seen ++ cond b (s ∷ []) []) (ne_eqb s.prop prop apart)
    ∙ append-nil (filter (λ (x : Sighting). x.prop == prop) seen))

-- no values where nothing is put in
pub no_values : (had : List ℕ) (seen : List Sighting) (prop : ℕ) → find (λ s. is_new had s.prop) seen ≡ None → is_new had prop ≡ true → values_put_in seen prop ≡ []
no_values had [] prop none new = refl
no_values had (s ∷ seen) prop none new =
    let passed = none_passes (λ (x : Sighting). is_new had x.prop) s seen none in
    ap (λ b. flat_map (λ (x : Sighting). x.values) (cond b (s ∷ filter (λ (x : Sighting). x.prop == prop) seen) (filter (λ (x : Sighting). x.prop == prop) seen)))
    (ne_eqb s.prop prop (λ is. new_apart had prop s.prop new passed.0 (sym is)))
    ∙ no_values had seen prop passed.1 new

-- nothing is new where more was had
none_later : (had : List ℕ) (prop : ℕ) (seen : List Sighting) → find (λ (x : Sighting). is_new had x.prop) seen ≡ None →
    find (λ (x : Sighting). is_new (prop ∷ had) x.prop) seen ≡ None
none_later had prop [] none = refl
none_later had prop (s ∷ seen) none =
    let passed = none_passes (λ (x : Sighting). is_new had x.prop) s seen none in
    ap (λ b. cond b (Some s) (find (λ (x : Sighting). is_new (prop ∷ had) x.prop) seen)) (had_still had s.prop prop passed.0) ∙ none_later had prop seen passed.1

-- ---- one put more

module _ (seen : List Sighting) (s : Sighting) where
  -- into a property that was had
  pub put_elsewhere : {had : List ℕ} {infos : List PropertyInfo} → ArePutInto seen had infos → is_new had s.prop ≡ false → ArePutInto (seen ++ s ∷ []) had infos
  put_elsewhere {had} (put.none none) was = put.none (none_found (λ (x : Sighting). is_new had x.prop) seen s none was)
  put_elsewhere {had} (put.more {info} first is prop list values rest) was =
      let test : Sighting → Bool = λ x. is_new had x.prop in
      let apart : s.prop ≢ first.prop = λ e. new_apart had first.prop s.prop (found_passes test seen first is) was (sym e) in
      put.more first (found_still test seen first (s ∷ []) is) prop list (subst (λ vs. FirstSeen [] vs info.values) (sym (other_prop seen s first.prop apart)) values)
      (put_elsewhere rest (had_still had s.prop first.prop was))

  pub puts_in : {had : List ℕ} {infos now : List PropertyInfo} → ArePutInto seen had infos → is_new had s.prop ≡ true → PutsIntoProperty s.prop s.list s.values infos now →
      ArePutInto (seen ++ s ∷ []) had now
  puts_in {had} (put.none none) new (into.new {info} prop list joins) =
      let test : Sighting → Bool = λ x. is_new had x.prop in
      let values : values_put_in (seen ++ s ∷ []) s.prop ≡ s.values = same_prop seen s s.prop refl ∙ ap (λ vs. vs ++ s.values) (no_values had seen s.prop none new) in
      put.more s (one_found test seen s none new) prop list (subst (λ vs. FirstSeen [] vs info.values) (sym values) (all_new joins))
      (put.none (none_found (λ (x : Sighting). is_new (s.prop ∷ had) x.prop) seen s (none_later had s.prop seen none) (had_now had s.prop s.prop refl)))
  puts_in {had} (put.more first is prop list values rest) new (into.here {old} {new = now} same prop' list' joins) =
      let test : Sighting → Bool = λ x. is_new had x.prop in
      let this : s.prop ≡ first.prop = sym same ∙ prop in
      put.more first (found_still test seen first (s ∷ []) is) (prop' ∙ prop) (list' ∙ list)
      (subst (λ vs. FirstSeen [] vs now.values) (sym (same_prop seen s first.prop this)) (first_joins values joins))
      (put_elsewhere rest (had_now had s.prop first.prop this))
  puts_in {had} (put.more {info} first is prop list values rest) new (into.later apart more) =
      let test : Sighting → Bool = λ x. is_new had x.prop in
      let other : s.prop ≢ first.prop = λ e. apart (prop ∙ sym e) in
      put.more first (found_still test seen first (s ∷ []) is) prop list (subst (λ vs. FirstSeen [] vs info.values) (sym (other_prop seen s first.prop other)) values)
      (puts_in rest (new_still had s.prop first.prop other new) more)

-- ---- the properties are one list

pub same_info : (one other : PropertyInfo) → one.prop.0 ≡ other.prop.0 → one.list ≡ other.list → one.values ≡ other.values → one ≡ other
same_info one other prop list values =
    let by_prop : ℕ → PropertyInfo = λ n. record { prop = record { 0 = n }; list = one.list; values = one.values } in
    let by_list : Bool → PropertyInfo = λ b. record { prop = other.prop; list = b; values = one.values } in
    let by_values : List ValueKind → PropertyInfo = λ vs. record { prop = other.prop; list = other.list; values = vs } in
    ap by_prop prop ∙ ap by_list list ∙ ap by_values values

pub one_put_into : (seen : List Sighting) {had : List ℕ} {infos others : List PropertyInfo} → ArePutInto seen had infos → ArePutInto seen had others → infos ≡ others
one_put_into seen (put.none none) (put.none _) = refl
one_put_into seen (put.none none) (put.more first is _ _ _ _) = absurd (none-some first (sym none ∙ is))
one_put_into seen (put.more first is _ _ _ _) (put.none none) = absurd (none-some first (sym none ∙ is))
one_put_into seen {had} (put.more {info} {infos} first is prop list values rest) (put.more {info = other} {infos = others} second was prop' list' values' rest') =
    let same : second ≡ first = same_Some second first (sym was ∙ is) in
    let all : ArePutInto seen (first.prop ∷ had) others = subst (λ (x : Sighting). ArePutInto seen (x.prop ∷ had) others) same rest' in
    let given : FirstSeen [] (values_put_in seen first.prop) other.values = subst (λ (x : Sighting). FirstSeen [] (values_put_in seen x.prop) other.values) same values' in
    let this : info ≡ other = same_info info other (prop ∙ sym (ap (λ (x : Sighting). x.prop) same) ∙ sym prop') (list ∙ sym (ap (λ (x : Sighting). x.list) same) ∙ sym list') (one_list values given) in
    ap₂ (λ x xs. x ∷ xs) this (one_put_into seen rest all)
