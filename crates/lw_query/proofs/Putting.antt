-- One spot after another is put in.
use Rattle.std.proofs.Common.{
  ℕ,
  zero,
  suc,
  ◌≡◌,
  ◌+◌,
  ◌<◌,
  ◌↔◌,
  ◌⊎◌,
  inl,
  inr,
  Bool,
  true,
  false,
  List,
  [],
  ◌∷◌,
  ◌++◌,
  Option,
  Some,
  None,
  Contains,
  length,
  slice_get,
  take,
  if◌then◌else◌,
  refl,
  sym,
  ap,
  subst,
  ◌∙◌,
  arith,
}
use Rattle.std.specs.BTreeSet.{insert_key}
use Rattle.std.specs.Ordering.{match_ordering}
use Rattle.std.specs.declared.cmp.Ordering.{Ordering}
use Rattle.std.specs.declared.cmp.Ordering.TheVariants.{Less, Equal, Greater}
use Rattle.std.proofs.lemmas.List.{take_more}
use Rattle.std.proofs.lemmas.List.Elements.{Contains-append_left, Contains-push, Contains-push_cases}
use Rattle.std.proofs.lemmas.Option.{get_or_from_slice_get, same_Some}
use Rattle.lw_index.specs.declared.parts.Target.{Target}
use Rattle.lw_index.specs.Led.{Led}
use Rattle.lw_index.specs.Users.{IsUser}
use Rattle.lw_index.specs.declared.refs.slot.SlotId.{SlotId}
use Rattle.lw_tree.specs.Parts.{Parts}
use Rattle.lw_query.specs.Gathered.{KeepsSpot, PutsSpots, SpotKey, key_cmp, spot_of_key}
use Rattle.lw_query.specs.Spots.{IsSpotOfMention, IsSpotOfSlot, slot_spot, target_spot, used, declared}
use Rattle.lw_query.specs.declared.spot.Spot.{Spot}
use Rattle.lw_query.proofs.Keys.{same_all}
use Rattle.lw_query.proofs.Rows.{differ}

-- ---- equal keys are of one spot

pub one_spot : (a b : SpotKey) → key_cmp a b ≡ Equal → spot_of_key a ≡ spot_of_key b
one_spot a b is =
    let (_, start, end, doc) = same_all a b is in λ i. record { doc = record { 0 = doc i }; span = record { start = start i; end = end i } }

-- ---- a key goes to its place

first_of : (x : SpotKey) (xs : List SpotKey) → Contains (x ∷ xs) x
first_of x xs = (0, omega arith, refl)

behind : (x y : SpotKey) (xs : List SpotKey) → Contains xs y → Contains (x ∷ xs) y
behind x y xs (i, low, is) = (suc i, omega (arith, low), is)

head_or_later : (x y : SpotKey) (xs : List SpotKey) → Contains (x ∷ xs) y → (x ≡ y) ⊎ Contains xs y
head_or_later x y xs (zero, low, is) = inl is
head_or_later x y xs (suc i, low, is) = inr (i, omega (arith, low), is)

-- what was kept is kept
still : (ks : List SpotKey) (k x : SpotKey) → Contains ks x → Contains (insert_key key_cmp ks k) x
still [] k x (i, low, is) = absurd (omega (arith, low))
still (y ∷ ys) k x has = by (λ later. still ys k x later) (key_cmp k y)
  where
    in_rest : (Contains ys x → Contains (insert_key key_cmp ys k) x) → (y ≡ x) ⊎ Contains ys x → Contains (y ∷ insert_key key_cmp ys k) x
    in_rest rest (inl is) = subst (Contains (y ∷ insert_key key_cmp ys k)) is (first_of y (insert_key key_cmp ys k))
    in_rest rest (inr later) = behind y x (insert_key key_cmp ys k) (rest later)

    by : (Contains ys x → Contains (insert_key key_cmp ys k) x) → (o : Ordering) →
        Contains (match_ordering o (k ∷ y ∷ ys) (y ∷ ys) (y ∷ insert_key key_cmp ys k)) x
    by rest Less = behind k x (y ∷ ys) has
    by rest Equal = has
    by rest Greater = in_rest rest (head_or_later y x ys has)

-- the key is kept, or one of the same spot
kept_now : (ks : List SpotKey) (k : SpotKey) → KeepsSpot (insert_key key_cmp ks k) (spot_of_key k)
kept_now [] k = record { key = k; among = first_of k []; is = refl }
kept_now (y ∷ ys) k = by (kept_now ys k) (key_cmp k y) refl
  where
    by : KeepsSpot (insert_key key_cmp ys k) (spot_of_key k) → (o : Ordering) → key_cmp k y ≡ o →
        KeepsSpot (match_ordering o (k ∷ y ∷ ys) (y ∷ ys) (y ∷ insert_key key_cmp ys k)) (spot_of_key k)
    by rest Less is = record { key = k; among = first_of k (y ∷ ys); is = refl }
    by rest Equal is = record { key = y; among = first_of y ys; is = sym (one_spot k y is) }
    by rest Greater is = record { key = rest.key; among = behind y rest.key (insert_key key_cmp ys k) rest.among; is = rest.is }

-- nothing else is kept
nothing_else : (ks : List SpotKey) (k x : SpotKey) → Contains (insert_key key_cmp ks k) x → Contains ks x ⊎ (k ≡ x)
nothing_else [] k x has = elim (head_or_later k x [] has) [ inl is ↦ inr is | inr later ↦ inl later ]
nothing_else (y ∷ ys) k x has = by (λ later. nothing_else ys k x later) (key_cmp k y) has
  where
    in_rest : (Contains (insert_key key_cmp ys k) x → Contains ys x ⊎ (k ≡ x)) → (y ≡ x) ⊎ Contains (insert_key key_cmp ys k) x → Contains (y ∷ ys) x ⊎ (k ≡ x)
    in_rest rest (inl is) = inl (subst (Contains (y ∷ ys)) is (first_of y ys))
    in_rest rest (inr later) = elim (rest later) [ inl was ↦ inl (behind y x ys was) | inr is ↦ inr is ]

    by : (Contains (insert_key key_cmp ys k) x → Contains ys x ⊎ (k ≡ x)) → (o : Ordering) →
        Contains (match_ordering o (k ∷ y ∷ ys) (y ∷ ys) (y ∷ insert_key key_cmp ys k)) x → Contains (y ∷ ys) x ⊎ (k ≡ x)
    by rest Less there = elim (head_or_later k x (y ∷ ys) there) [ inl is ↦ inr is | inr later ↦ inl later ]
    by rest Equal there = inl there
    by rest Greater there = in_rest rest (head_or_later y x (insert_key key_cmp ys k) there)

-- ---- spots

module _ (Stands : ℕ → List ℕ → Type 0) where
  pub puts_key : (old : List SpotKey) (k : SpotKey) → Stands k.3 k.0.now → PutsSpots Stands (λ s. Some (spot_of_key k) ≡ Some s) old (insert_key key_cmp old k)
  puts_key old k stands = record {
    kept = λ spot keeps. record { key = keeps.key; among = still old k keeps.key keeps.among; is = keeps.is };
    put_in = λ spot address is _. subst (KeepsSpot (insert_key key_cmp old k)) (same_Some (spot_of_key k) spot is) (kept_now old k);
    only = λ x has. elim (nothing_else old k x has) [
      | inl was ↦ inl was
      | inr is ↦ inr (ap (λ y. Some (spot_of_key y)) is, subst (λ (y : SpotKey). Stands y.3 y.0.now) is stands)
    ];
  }

  pub puts_both : (One Other Both : Spot → Type 0) (a b c : List SpotKey) → ((s : Spot) → Both s → One s ⊎ Other s) → ((s : Spot) → One s → Both s) →
      ((s : Spot) → Other s → Both s) → PutsSpots Stands One a b → PutsSpots Stands Other b c → PutsSpots Stands Both a c
  puts_both One Other Both a b c either left right first second = record {
    kept = λ spot keeps. second.kept spot (first.kept spot keeps);
    put_in = λ spot address is stands. elim (either spot is) [
      | inl one ↦ second.kept spot (first.put_in spot address one stands)
      | inr other ↦ second.put_in spot address other stands
    ];
    only = λ k has. elim (second.only k has) [
      | inl before ↦ elim (first.only k before) [ inl was ↦ inl was | inr put ↦ inr (left (spot_of_key k) put.0, put.1) ]
      | inr put ↦ inr (right (spot_of_key k) put.0, put.1)
    ];
  }

-- ---- one reference after another

module _ (Stands : ℕ → List ℕ → Type 0) (tree_at : ℕ → Option Parts) where
  module _ (slots : List SlotId) (i : ℕ) (slot : SlotId) (low : i < length slots) (at : slice_get slots i ≡ Some slot) (put : Option Spot)
      (is_put : put ≡ slot_spot (tree_at slot.doc.0) slot) where
    more : take (i + 1) slots ≡ take i slots ++ slot ∷ []
    more = take_more slots i slot low ∙ ap (λ (x : SlotId). take i slots ++ x ∷ []) (get_or_from_slice_get slots i slot slot at)

    either : (s : Spot) → IsSpotOfSlot tree_at (take (i + 1) slots) s → IsSpotOfSlot tree_at (take i slots) s ⊎ (put ≡ Some s)
    either s is = by (Contains-push_cases (take i slots) slot is.slot (subst (λ (xs : List SlotId). Contains xs is.slot) more is.among))
      where
        by : Contains (take i slots) is.slot ⊎ (slot ≡ is.slot) → IsSpotOfSlot tree_at (take i slots) s ⊎ (put ≡ Some s)
        by (inl before) = inl (record { slot = is.slot; among = before; there = is.there })
        by (inr same) = inr (is_put ∙ ap (λ (x : SlotId). slot_spot (tree_at x.doc.0) x) same ∙ is.there)

    before : (s : Spot) → IsSpotOfSlot tree_at (take i slots) s → IsSpotOfSlot tree_at (take (i + 1) slots) s
    before s is = record {
      slot = is.slot;
      among = subst (λ (xs : List SlotId). Contains xs is.slot) (sym more) (Contains-append_left (take i slots) (slot ∷ []) is.slot is.among);
      there = is.there;
    }

    now : (s : Spot) → put ≡ Some s → IsSpotOfSlot tree_at (take (i + 1) slots) s
    now s is = record {
      slot = slot;
      among = subst (λ (xs : List SlotId). Contains xs slot) (sym more) (Contains-push (take i slots) slot);
      there = sym is_put ∙ is;
    }

    pub one_more : (a b c : List SpotKey) → PutsSpots Stands (IsSpotOfSlot tree_at (take i slots)) a b → PutsSpots Stands (λ s. put ≡ Some s) b c →
        PutsSpots Stands (IsSpotOfSlot tree_at (take (i + 1) slots)) a c
    one_more a b c first second =
        puts_both Stands (IsSpotOfSlot tree_at (take i slots)) (λ s. put ≡ Some s) (IsSpotOfSlot tree_at (take (i + 1) slots)) a b c either before now
        first second

  -- ---- the name and the references of a node

  module _ (led : Led) (declaration : Bool) (target : Target) (slots : List SlotId) (exact : (slot : SlotId) → Contains slots slot ↔ IsUser led target slot)
      (put : Option Spot) (is_put : put ≡ (if declaration then target_spot (tree_at target.doc.0) target else None)) where
    by_name : (b : Bool) → declaration ≡ b → (s : Spot) → (if b then target_spot (tree_at target.doc.0) target else None) ≡ Some s →
        IsSpotOfMention tree_at led declaration target s
    by_name true counts s is = declared counts is
    by_name false _ s is = absurd (differ is)

    the_name : (s : Spot) → put ≡ Some s → IsSpotOfMention tree_at led declaration target s
    the_name s is = by_name declaration refl s (sym is_put ∙ is)

    a_use : (s : Spot) → IsSpotOfSlot tree_at slots s → IsSpotOfMention tree_at led declaration target s
    a_use s is = used is.slot ((exact is.slot).0 is.among) is.there

    name_or_use : (s : Spot) → IsSpotOfMention tree_at led declaration target s → (put ≡ Some s) ⊎ IsSpotOfSlot tree_at slots s
    name_or_use s (used slot user there) = inr (record { slot = slot; among = (exact slot).1 user; there = there })
    name_or_use s (declared counts there) =
        inl (is_put ∙ ap (λ (b : Bool). if b then target_spot (tree_at target.doc.0) target else None) counts ∙ there)

    pub gathered : (a b c : List SpotKey) → PutsSpots Stands (λ s. put ≡ Some s) a b → PutsSpots Stands (IsSpotOfSlot tree_at slots) b c →
        PutsSpots Stands (IsSpotOfMention tree_at led declaration target) a c
    gathered a b c first second =
        puts_both Stands (λ s. put ≡ Some s) (IsSpotOfSlot tree_at slots) (IsSpotOfMention tree_at led declaration target) a b c name_or_use the_name
        a_use first second
