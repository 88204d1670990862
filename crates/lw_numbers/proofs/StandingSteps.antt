-- How names stand among declarations, one declaration more.
use Rattle.std.proofs.Common.{◌≡◌, ℕ, zero, suc, ◌+◌, ◌<◌, List, [], ◌∷◌, ◌++◌, Bool, true, false, cond, Option, Some, None, MatchOption, length, get_or, slice_get, Contains, take, ◌⊎◌, inl, inr, refl, sym, ap, ◌∙◌, subst, arith, true≢false}
use Rattle.std.specs.Str.{bytes_eq}
use Rattle.std.specs.Map.{lookup}
use Rattle.std.specs.Bool.{Decides}
use Rattle.std.proofs.lemmas.List.{get_or_append_left, take_more, length-take}
use Rattle.std.proofs.Math.Seq.{get_or-append_seam}
use Rattle.std.proofs.lemmas.List.{length-append}
use Rattle.std.proofs.lemmas.List.Elements.{Contains-append_left, Contains-append_right, Contains-append_cases}
use Rattle.std.proofs.lemmas.Option.{slice_get-get_or, slice_get_within, same_Some}
use Rattle.std.proofs.lemmas.Slice.Eq.{bytes_eq-Decides}
use Rattle.lw_grammar.specs.Named.{Declaration, IsFirst}
use Rattle.lw_numbers.specs.declared.standing.Place.{Place}
use Rattle.lw_numbers.specs.declared.standing.Standing.{Standing}
use Rattle.lw_numbers.specs.Standing.{IsBefore, declared_place, Meets, StandsAs, StandAmong}

-- ---- places

pub before_trans : (a b c : Place) → IsBefore a b → IsBefore b c → IsBefore a c
before_trans a b c (inl one) (inl two) = inl (omega arith)
before_trans a b c (inl one) (inr two) = inl (omega (arith, two.0))
before_trans a b c (inr one) (inl two) = inl (omega (arith, one.0))
before_trans a b c (inr one) (inr two) = inr (one.0 ∙ two.0, omega (arith, one.1, two.1))

pub not_before_itself : (a : Place) → ¬ IsBefore a a
not_before_itself a (inl lt) = omega arith
not_before_itself a (inr same) = omega (arith, same.1)

-- ---- lists

module _ {X : Type 0} where
  pub in_one : {x : X} (y : X) → Contains (y ∷ []) x → y ≡ x
  in_one y (zero, inside, is) = is
  in_one y (suc k, inside, is) = absurd (omega arith)

  pub last_in : (xs : List X) (x : X) → Contains (xs ++ x ∷ []) x
  last_in xs x = Contains-append_right xs (x ∷ []) x (0, omega arith, refl)

  -- an item of the longer list is one of the shorter, or the new one
  pub old_or_new : (xs : List X) (x y : X) → Contains (xs ++ x ∷ []) y → Contains xs y ⊎ (x ≡ y)
  old_or_new xs x y has = elim (Contains-append_cases xs (x ∷ []) y has) [
    | inl old ↦ inl old
    | inr new ↦ inr (in_one x new)
  ]

  get_left : (xs ys : List X) (i : ℕ) (d : X) → i < length xs → slice_get (xs ++ ys) i ≡ slice_get xs i
  get_left xs ys i d inside =
      slice_get-get_or (xs ++ ys) i d (omega (arith, length-append xs ys, inside)) ∙ ap Some (get_or_append_left xs ys d i inside)
      ∙ sym (slice_get-get_or xs i d inside)

  module _ {passes : X → Type 0} (xs : List X) where
    -- what is first stays first
    pub first_stays : (ys : List X) (i : ℕ) (x : X) → IsFirst passes xs i x → IsFirst passes (xs ++ ys) i x
    first_stays ys i x first =
        let inside = slice_get_within xs i x first.there in
        record {
          there = get_left xs ys i x inside ∙ first.there;
          does = first.does;
          none_before = λ j y lt there. first.none_before j y lt (sym (get_left xs ys j x (omega (arith, lt, inside))) ∙ there);
        }

    -- where none passed, the new one is the first
    pub first_new : (x : X) → ((y : X) → Contains xs y → ¬ passes y) → passes x → IsFirst passes (xs ++ x ∷ []) (length xs) x
    first_new x none does = record {
      there =
          slice_get-get_or (xs ++ x ∷ []) (length xs) x (omega (arith, length-append xs (x ∷ []))) ∙ ap Some (get_or-append_seam xs x [] x);
      does = does;
      none_before = λ j y lt there.
          let old = slice_get-get_or xs j x lt in
          none y (j, lt, same_Some _ _ (sym (slice_get-get_or xs j y lt) ∙ sym (get_left xs (x ∷ []) j x lt) ∙ there));
    }

-- ---- standings

module _ {X : Type 0} (declared_by : X → Declaration) (first : ℕ) (xs : List X) (x : X) where
  -- the new one has another name
  stands_still : (name : List ℕ) (s : Standing) → ¬ ((declared_by x).name ≡ name) → StandsAs declared_by first xs name s →
      StandsAs declared_by first (xs ++ x ∷ []) name s
  stands_still name s other stands = record {
    at = stands.at;
    item = stands.item;
    is_first = first_stays xs (x ∷ []) stands.at stands.item stands.is_first;
    number = stands.number;
    place = stands.place;
    soonest = stands.soonest;
    among = Contains-append_left xs (x ∷ []) stands.soonest stands.among;
    named = stands.named;
    earliest = stands.earliest;
    none_sooner = λ y has is. elim (old_or_new xs x y has) [
      | inl old ↦ stands.none_sooner y old is
      | inr new ↦ absurd (other (ap (λ z. (declared_by z).name) new ∙ is))
    ];
  }

  -- the new one has the name, which stood there
  stands_met : (name : List ℕ) (old new : Standing) → (declared_by x).name ≡ name → StandsAs declared_by first xs name old →
      Meets (declared_place (declared_by x)) old new → StandsAs declared_by first (xs ++ x ∷ []) name new
  stands_met name old new is stands (inl sooner) = record {
    at = stands.at;
    item = stands.item;
    is_first = first_stays xs (x ∷ []) stands.at stands.item stands.is_first;
    number = ap (λ s. s.number) sooner.1 ∙ stands.number;
    place = ap (λ s. s.place) sooner.1 ∙ stands.place;
    soonest = x;
    among = last_in xs x;
    named = is;
    earliest = ap (λ s. s.earliest) sooner.1;
    none_sooner = λ y has named before.
        let still : IsBefore (declared_place (declared_by y)) (declared_place (declared_by x)) = subst (IsBefore (declared_place (declared_by y))) (ap (λ s. s.earliest) sooner.1) before in
        elim (old_or_new xs x y has) [
          | inl was ↦ stands.none_sooner y was named (before_trans (declared_place (declared_by y)) (declared_place (declared_by x)) old.earliest still sooner.0)
          | inr same ↦ not_before_itself (declared_place (declared_by x)) (subst (λ z. IsBefore (declared_place (declared_by z)) (declared_place (declared_by x))) (sym same) still)
        ];
  }
  stands_met name old new is stands (inr later) = record {
    at = stands.at;
    item = stands.item;
    is_first = first_stays xs (x ∷ []) stands.at stands.item stands.is_first;
    number = ap (λ s. s.number) later.1 ∙ stands.number;
    place = ap (λ s. s.place) later.1 ∙ stands.place;
    soonest = stands.soonest;
    among = Contains-append_left xs (x ∷ []) stands.soonest stands.among;
    named = stands.named;
    earliest = ap (λ s. s.earliest) later.1 ∙ stands.earliest;
    none_sooner = λ y has named before.
        let still : IsBefore (declared_place (declared_by y)) old.earliest = subst (IsBefore (declared_place (declared_by y))) (ap (λ s. s.earliest) later.1) before in
        elim (old_or_new xs x y has) [
          | inl was ↦ stands.none_sooner y was named still
          | inr same ↦ later.0 (subst (λ z. IsBefore (declared_place (declared_by z)) old.earliest) (sym same) still)
        ];
  }

  -- the new one is the first of its name
  pub record Begins (s : Standing) : Type 0 where
    pub number : s.number ≡ first + length xs
    pub place : s.place ≡ declared_place (declared_by x)
    pub earliest : s.earliest ≡ declared_place (declared_by x)

  stands_first : (name : List ℕ) (s : Standing) → (declared_by x).name ≡ name → ((y : X) → Contains xs y → ¬ ((declared_by y).name ≡ name)) → Begins s →
      StandsAs declared_by first (xs ++ x ∷ []) name s
  stands_first name s is none begins = record {
    at = length xs;
    item = x;
    is_first = first_new xs x none is;
    number = begins.number;
    place = begins.place;
    soonest = x;
    among = last_in xs x;
    named = is;
    earliest = begins.earliest;
    none_sooner = λ y has named before. elim (old_or_new xs x y has) [
      | inl was ↦ none y was named
      | inr same ↦ not_before_itself (declared_place (declared_by x))
          (subst (λ z. IsBefore (declared_place (declared_by z)) (declared_place (declared_by x))) (sym same) (subst (IsBefore (declared_place (declared_by y))) begins.earliest before))
    ];
  }

  abbrev Among : List X → List ℕ → Option Standing → Type 0
  Among ys name found = MatchOption found ((y : X) → Contains ys y → ¬ ((declared_by y).name ≡ name)) (StandsAs declared_by first ys name)

  others_still : (name : List ℕ) (found : Option Standing) → ¬ ((declared_by x).name ≡ name) → Among xs name found → Among (xs ++ x ∷ []) name found
  others_still name None other none = λ y has is. elim (old_or_new xs x y has) [
    | inl old ↦ none y old is
    | inr new ↦ other (ap (λ z. (declared_by z).name) new ∙ is)
  ]
  others_still name (Some s) other stands = stands_still name s other stands

  one_stands : (name : List ℕ) (found : Option Standing) (new : Standing) → (declared_by x).name ≡ name → Among xs name found →
      MatchOption found (Begins new) (λ old. Meets (declared_place (declared_by x)) old new) → StandsAs declared_by first (xs ++ x ∷ []) name new
  one_stands name None new is none begins = stands_first name new is none begins
  one_stands name (Some old) new is stands meets = stands_met name old new is stands meets

  -- the entries, with the standing of the new one's name put in
  stand_more : (before after : List (List ℕ × Standing)) (new : Standing) → StandAmong declared_by first xs before →
      MatchOption (lookup (bytes_eq (declared_by x).name) before) (Begins new) (λ old. Meets (declared_place (declared_by x)) old new) →
      ((q : List ℕ) → lookup (bytes_eq q) after ≡ cond (bytes_eq (declared_by x).name q) (Some new) (lookup (bytes_eq q) before)) →
      StandAmong declared_by first (xs ++ x ∷ []) after
  stand_more before after new stand is updates q = subst (Among (xs ++ x ∷ []) q) (sym (updates q)) (by (bytes_eq (declared_by x).name q) refl)
    where
      decides : Decides (bytes_eq (declared_by x).name q) ((declared_by x).name ≡ q)
      decides = bytes_eq-Decides (declared_by x).name q

      by : (b : Bool) → bytes_eq (declared_by x).name q ≡ b → Among (xs ++ x ∷ []) q (cond b (Some new) (lookup (bytes_eq q) before))
      by true same =
          let is_q : (declared_by x).name ≡ q = decides.0 same in
          one_stands q (lookup (bytes_eq q) before) new is_q (stand q)
          (subst (λ name. MatchOption (lookup (bytes_eq name) before) (Begins new) (λ old. Meets (declared_place (declared_by x)) old new)) is_q is)
      by false apart = others_still q (lookup (bytes_eq q) before) (λ is. true≢false (sym (decides.1 is) ∙ apart)) (stand q)

-- new is the standing after one more declaration, at this place and of this number, where found was the one before
abbrev pub Continues : Place → ℕ → Option Standing → Standing → Type 0
Continues place number found new =
    MatchOption found ((new.number ≡ number) × (new.place ≡ place) × (new.earliest ≡ place)) (λ old. Meets place old new)

-- the same in a loop over items
module _ {X : Type 0} (declared_by : X → Declaration) (first : ℕ) (items : List X) (i : ℕ) (x : X) (inside : i < length items) (there : x ≡ get_or items i x) where
  abbrev Goes : Option Standing → Standing → Type 0
  Goes found new = MatchOption found (Begins declared_by first (take i items) x new) (λ old. Meets (declared_place (declared_by x)) old new)

  goes : (place : Place) (number : ℕ) → number ≡ first + i → place ≡ declared_place (declared_by x) → (found : Option Standing) (new : Standing) →
      Continues place number found new → Goes found new
  goes place number counts is None new (a, b, c) = record {
    number = omega (arith, a, counts, length-take i items, inside);
    place = b ∙ is;
    earliest = c ∙ is;
  }
  goes place number counts is (Some old) new meets = subst (λ p. Meets p old new) is meets

  pub stand_next : (before after : List (List ℕ × Standing)) (new : Standing) (number : ℕ) (place : Place) (asked key : List ℕ) (found : Option Standing) →
      StandAmong declared_by first (take i items) before → number ≡ first + i → place ≡ declared_place (declared_by x) → asked ≡ (declared_by x).name →
      key ≡ (declared_by x).name → found ≡ lookup (bytes_eq asked) before → Continues place number found new →
      ((q : List ℕ) → lookup (bytes_eq q) after ≡ cond (bytes_eq key q) (Some new) (lookup (bytes_eq q) before)) →
      StandAmong declared_by first (take (i + 1) items) after
  stand_next before after new number place asked key found stand counts at same is was continues updates =
      let was_here = was ∙ ap (λ name. lookup (bytes_eq name) before) same in
      subst (λ xs. StandAmong declared_by first xs after) (ap (λ y. take i items ++ y ∷ []) there ∙ sym (take_more items i x inside))
      (stand_more declared_by first (take i items) x before after new stand
      (subst (λ o. Goes o new) was_here (goes place number counts at found new continues))
      (λ q. updates q ∙ ap (λ k. cond (bytes_eq k q) (Some new) (lookup (bytes_eq q) before)) is))
