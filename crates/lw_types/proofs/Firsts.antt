-- The items of a list, each once: with one more, with another list behind, and that they are one list.
use Rattle.std.proofs.Common.{◌≡◌, zero, suc, List, [], ◌∷◌, ◌++◌, Contains, ◌⊎◌, inl, inr, refl, sym, ap, ◌∙◌, subst, arith}
use Rattle.std.proofs.lemmas.List.{append_assoc, append-nil}
use Rattle.std.proofs.lemmas.List.Elements.{Contains-append_left, Contains-append_right, Contains-append_cases}
use Rattle.lw_grammar.specs.declared.declared_types.ValueKind.{ValueKind}
use Rattle.lw_types.specs.FirstSeen.{FirstSeen}
use Rattle.lw_types.specs.FirstSeen as seen
use Rattle.lw_types.specs.Gathered.{JoinsValues}

module _ {X : Type 0} where
  pub at_front : (x : X) (xs : List X) → Contains (x ∷ xs) x
  at_front x xs = (0, omega arith, refl)

  pub behind_front : (y : X) (xs : List X) (x : X) → Contains xs x → Contains (y ∷ xs) x
  behind_front y xs x (k, inside, is) = (suc k, omega arith, is)

  pub front_cases : (y : X) (xs : List X) (x : X) → Contains (y ∷ xs) x → (y ≡ x) ⊎ Contains xs x
  front_cases y xs x (zero, inside, is) = inl is
  front_cases y xs x (suc k, inside, is) = inr (k, omega arith, is)

  pub not_in_none : (x : X) → ¬ Contains [] x
  not_in_none x (k, inside, is) = omega (arith, inside)

  -- it was seen before, or it is one of these
  abbrev pub Either : List X → List X → X → Type 0
  Either had xs x = Contains had x ⊎ Contains xs x

  to_front : (had xs : List X) (y x : X) → Either had (y ∷ xs) x → Either (y ∷ had) xs x
  to_front had xs y x (inl was) = inl (behind_front y had x was)
  to_front had xs y x (inr within) = elim (front_cases y xs x within) [
    | inl is ↦ inl (subst (Contains (y ∷ had)) is (at_front y had))
    | inr later ↦ inr later
  ]

  from_front : (had xs : List X) (y x : X) → Either (y ∷ had) xs x → Either had (y ∷ xs) x
  from_front had xs y x (inr later) = inr (behind_front y xs x later)
  from_front had xs y x (inl within) = elim (front_cases y had x within) [
    | inl is ↦ inr (subst (Contains (y ∷ xs)) is (at_front y xs))
    | inr was ↦ inl was
  ]

  -- what was seen counts by its items alone
  pub same_seen : {had now xs ys : List X} → ((x : X) → Contains had x → Contains now x) → ((x : X) → Contains now x → Contains had x) → FirstSeen had xs ys →
      FirstSeen now xs ys
  same_seen to from seen.none = seen.none
  same_seen to from (seen.again {x} was rest) = seen.again (to x was) (same_seen to from rest)
  same_seen {had} {now} to from (seen.new {x} fresh rest) = seen.new (λ is. fresh (from x is)) (same_seen with_to with_from rest)
    where
      with_to : (y : X) → Contains (x ∷ had) y → Contains (x ∷ now) y
      with_to y within = elim (front_cases x had y within) [
        | inl is ↦ subst (Contains (x ∷ now)) is (at_front x now)
        | inr was ↦ behind_front x now y (to y was)
      ]

      with_from : (y : X) → Contains (x ∷ now) y → Contains (x ∷ had) y
      with_from y within = elim (front_cases x now y within) [
        | inl is ↦ subst (Contains (x ∷ had)) is (at_front x had)
        | inr was ↦ behind_front x had y (from y was)
      ]

  -- another list behind
  pub first_behind : {had now xs ys zs ws : List X} → ((x : X) → Contains now x → Either had ys x) → ((x : X) → Either had ys x → Contains now x) → FirstSeen had xs ys →
      FirstSeen now zs ws → FirstSeen had (xs ++ zs) (ys ++ ws)
  first_behind from to seen.none later =
      same_seen (λ x has. elim (from x has) [ inl was ↦ was | inr within ↦ absurd (not_in_none x within) ]) (λ x was. to x (inl was)) later
  first_behind from to (seen.again was rest) later = seen.again was (first_behind from to rest later)
  first_behind {had} {now} from to (seen.new {ys} {x} fresh rest) later =
      seen.new fresh (first_behind (λ y has. to_front had ys x y (from y has)) (λ y either. to y (from_front had ys x y either)) rest later)

  pub first_joined : {xs ys zs ws : List X} → FirstSeen [] xs ys → FirstSeen ys zs ws → FirstSeen [] (xs ++ zs) (ys ++ ws)
  first_joined first later = first_behind (λ x has. inr has) (λ x either. elim either [ inl was ↦ absurd (not_in_none x was) | inr has ↦ has ]) first later

  -- one more
  pub one_again : {had xs ys : List X} (x : X) → FirstSeen had xs ys → Either had ys x → FirstSeen had (xs ++ x ∷ []) ys
  one_again x seen.none (inl was) = seen.again was seen.none
  one_again x seen.none (inr within) = absurd (not_in_none x within)
  one_again x (seen.again was rest) either = seen.again was (one_again x rest either)
  one_again {had} x (seen.new {ys} {x = y} fresh rest) either = seen.new fresh (one_again x rest (to_front had ys y x either))

  pub one_new : {had xs ys : List X} (x : X) → FirstSeen had xs ys → ¬ Either had ys x → FirstSeen had (xs ++ x ∷ []) (ys ++ x ∷ [])
  one_new x seen.none none = seen.new (λ was. none (inl was)) seen.none
  one_new x (seen.again was rest) none = seen.again was (one_new x rest none)
  one_new {had} x (seen.new {ys} {x = y} fresh rest) none = seen.new fresh (one_new x rest (λ either. none (from_front had ys y x either)))

  pub one_list : {had xs ys zs : List X} → FirstSeen had xs ys → FirstSeen had xs zs → ys ≡ zs
  one_list seen.none seen.none = refl
  one_list (seen.again was rest) (seen.again is other) = one_list rest other
  one_list (seen.again was rest) (seen.new fresh other) = absurd (fresh was)
  one_list (seen.new fresh rest) (seen.again is other) = absurd (fresh is)
  one_list (seen.new {x} fresh rest) (seen.new none other) = ap (λ ys. x ∷ ys) (one_list rest other)

-- ---- what is put behind

pub joins_none : (old : List ValueKind) → JoinsValues old [] old
joins_none old = record { more = []; is = sym (append-nil old); first = seen.none }

module _ {old xs now : List ValueKind} (joins : JoinsValues old xs now) (x : ValueKind) where
  in_now : Either old joins.more x → Contains now x
  in_now (inl was) = subst (λ ys. Contains ys x) (sym joins.is) (Contains-append_left old joins.more x was)
  in_now (inr within) = subst (λ ys. Contains ys x) (sym joins.is) (Contains-append_right old joins.more x within)

  pub joins_again : Contains now x → JoinsValues old (xs ++ x ∷ []) now
  joins_again has = record {
    more = joins.more;
    is = joins.is;
    first = one_again x joins.first (Contains-append_cases old joins.more x (subst (λ ys. Contains ys x) joins.is has));
  }

  pub joins_new : ¬ Contains now x → JoinsValues old (xs ++ x ∷ []) (now ++ x ∷ [])
  joins_new none = record {
    more = joins.more ++ x ∷ [];
    is = ap (λ ys. ys ++ x ∷ []) joins.is ∙ append_assoc old joins.more (x ∷ []);
    first = one_new x joins.first (λ either. none (in_now either));
  }

pub first_joins : {seen values more now : List ValueKind} → FirstSeen [] seen values → JoinsValues values more now → FirstSeen [] (seen ++ more) now
first_joins {seen} {values} {more} first joins = subst (FirstSeen [] (seen ++ more)) (sym joins.is) (first_joined first joins.first)

pub all_new : {values now : List ValueKind} → JoinsValues [] values now → FirstSeen [] values now
all_new {values} joins = subst (FirstSeen [] values) (sym joins.is) joins.first
