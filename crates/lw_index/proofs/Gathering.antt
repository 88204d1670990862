-- The references that lead to a node, gathered document by document.
use Rattle.std.proofs.Common.{◌≡◌, ◌≢◌, ◌↔◌, ◌⊎◌, ℕ, ◌+◌, ◌-◌, ◌<◌, ◌≤◌, Bool, true, false, cond, List, [], ◌∷◌, ◌++◌, Some, None, Contains, AllPairs, length, get_or, map, take, append-nil, append_assoc, refl, sym, ap, subst, ◌∙◌, inl, inr, arith}
use Rattle.std.specs.List.{filter, slice_get}
use Rattle.std.specs.List.Sorted.{IsStrictlySortedBy}
use Rattle.std.specs.declared.cmp.Ordering.TheVariants.{Less}
use Rattle.std.specs.BTreeSet.{BTreeSet, IsOrdered}
use Rattle.std.proofs.lemmas.Bool.{cases_lt}
use Rattle.std.proofs.lemmas.List.{get_or_append_left, get_or-append_right, length-append, length-map, map_more, take_all}
use Rattle.std.proofs.lemmas.List.Elements.{All-from_recursion, All-contains, Contains-append_left, Contains-append_right, Contains-append_cases, Contains-push_cases, Contains-get_or, filter_passes}
use Rattle.std.proofs.lemmas.Option.{same_Some, slice_get-get_or, slice_get-map}
use Rattle.std.specs.Option.{option_map}
use Rattle.std.proofs.lemmas.List.Kept.{IsStrictlySortedBy-filter}
use Rattle.std.proofs.lemmas.Map.Keys.{sorted_head, sorted_tail}
use Rattle.std.proofs.lemmas.Map.Views.{btree_set_contains_iff}
use Rattle.lw_base.specs.declared.numbers.DocId.{DocId}
use Rattle.lw_index.specs.declared.parts.Answer.{Answer}
use Rattle.lw_index.specs.declared.parts.Answer.TheVariants.{Found}
use Rattle.lw_index.specs.declared.parts.Target.{Target}
use Rattle.lw_index.specs.declared.refs.slot.SlotId.{SlotId}
use Rattle.lw_index.specs.declared.refs.uses.Use.{Use}
use Rattle.lw_index.specs.Users.{SlotPrecedes, by_document, by_reference, AreUsersIn}
use Rattle.lw_index.specs.Uses.{target_of_use, AreUses, UsePrecedes}
use Rattle.lw_index.specs.Pairs.{Pair, pair_cmp, LeadsInto, HeldAnswers, held_at, ArePaired, IsHeldUser}
use Rattle.lw_index.proofs.PairOrder.{pair_total, pair_exact, IsBelow, pair_below, from_document, is_from, from_is}

-- ---- lists

-- the head of a list, or one of the rest
module _ {X : Type 0} (x : X) (xs : List X) (y : X) where
  pub head_or_rest : Contains (x ∷ xs) y → (x ≡ y) ⊎ Contains xs y
  head_or_rest has = elim (Contains-append_cases (x ∷ []) xs y has) as (λ _. (x ≡ y) ⊎ Contains xs y) [
    | inl front ↦ inl (only front)
    | inr behind ↦ inr behind
  ]
    where
      only : Contains (x ∷ []) y → x ≡ y
      only front = elim (Contains-push_cases [] x y front) as (λ _. x ≡ y) [ inl none ↦ absurd (omega (arith, none.1)) | inr same ↦ same ]

  pub in_rest : Contains xs y → Contains (x ∷ xs) y
  in_rest has = Contains-append_right (x ∷ []) xs y has

pub at_head : {X : Type 0} (x : X) (xs : List X) → Contains (x ∷ xs) x
at_head x xs = (0, omega arith, refl)

pub none_in_nil : {X G : Type 0} (x : X) → Contains {X = X} [] x → G
none_in_nil x has = absurd (omega (arith, has.1))

module _ {X : Type 0} (p : X → Bool) (x : X) (passes : p x ≡ true) where
  pub kept_in : (xs : List X) → Contains xs x → Contains (filter p xs) x
  kept_in [] has = none_in_nil x has
  kept_in (y ∷ ys) has = elim (head_or_rest y ys x has) as (λ _. Contains (filter p (y ∷ ys)) x) [
    | inl same ↦ first (p y) (ap p same ∙ passes) same
    | inr behind ↦ later (p y) (kept_in ys behind)
  ]
    where
      first : (b : Bool) → b ≡ true → y ≡ x → Contains (cond b (y ∷ filter p ys) (filter p ys)) x
      first true is same = subst (Contains (y ∷ filter p ys)) same (at_head y (filter p ys))
      first false is same = cc

      later : (b : Bool) → Contains (filter p ys) x → Contains (cond b (y ∷ filter p ys) (filter p ys)) x
      later true has = in_rest y (filter p ys) x has
      later false has = has

mapped : {X Y : Type 0} (f : X → Y) (xs : List X) (k : ℕ) (d : Y) (e : X) → k < length xs → get_or (map f xs) k d ≡ f (get_or xs k e)
mapped f xs k d e lt = same_Some _ _ (sym (slice_get-get_or (map f xs) k d (omega (arith, length-map xs f))) ∙ slice_get-map f xs k ∙ ap (option_map f) (slice_get-get_or xs k e lt))

pub pairs_joined : {X : Type 0} (R : X → X → Type 0) (xs ys : List X) → AllPairs R xs → AllPairs R ys → ((x y : X) → Contains xs x → Contains ys y → R x y) → AllPairs R (xs ++ ys)
pairs_joined {X} R xs ys one other across i j d lt within =
    elim (cases_lt j (length xs)) as (λ _. R (get_or (xs ++ ys) i d) (get_or (xs ++ ys) j d)) [
      | inl front ↦ subst (λ v. R v (get_or (xs ++ ys) j d)) (sym (get_or_append_left xs ys d i (omega arith)))
          (subst (R (get_or xs i d)) (sym (get_or_append_left xs ys d j front)) (one i j d lt front))
      | inr back ↦ subst (R (get_or (xs ++ ys) i d)) (sym (get_or-append_right xs ys (length xs) j d refl back)) (left back (cases_lt i (length xs)))
    ]
  where
    room : length xs ≤ j → j - length xs < length ys
    room back = omega (arith, length-append xs ys)

    left : length xs ≤ j → (i < length xs) ⊎ (length xs ≤ i) → R (get_or (xs ++ ys) i d) (get_or ys (j - length xs) d)
    left back (inl front) = subst (λ v. R v (get_or ys (j - length xs) d)) (sym (get_or_append_left xs ys d i front))
        (across _ _ (Contains-get_or xs i d front) (Contains-get_or ys (j - length xs) d (room back)))
    left back (inr behind) = subst (λ v. R v (get_or ys (j - length xs) d)) (sym (get_or-append_right xs ys (length xs) i d refl behind))
        (other (i - length xs) (j - length xs) d (omega arith) (room back))

-- ---- those of one document

abbrev pub slot_of : DocId → Use → SlotId
slot_of doc u = record { doc = doc; reference = record { 0 = u.reference } }

module _ (answers : List Answer) (uses : List Use) (are : AreUses answers uses) (doc : DocId) (target : Target) (found : List Use)
    (exact : (u : Use) → Contains found u ↔ (Contains uses u × (u.doc ≡ target.doc.0) × (u.node ≡ target.node.0))) (ordered : AllPairs UsePrecedes found) where
  abbrev none : Use
  none = record { doc = 0; node = 0; reference = 0 }

  abbrev slots : List SlotId
  slots = map (slot_of doc) found

  same_target : (u : Use) → u.doc ≡ target.doc.0 → u.node ≡ target.node.0 → target_of_use u ≡ target
  same_target u e f = λ i. record { doc = record { 0 = e i }; node = record { 0 = f i } }

  there : (slot : SlotId) → Contains slots slot → (slot.doc ≡ doc) × (slice_get answers slot.reference.0 ≡ Some (Found target))
  there slot has =
      let lt : has.0 < length found = omega (arith, length-map found (slot_of doc), has.1) in
      let u : Use = get_or found has.0 none in
      let is : slot_of doc u ≡ slot = sym (mapped (slot_of doc) found has.0 slot none lt) ∙ has.2 in
      let h = (exact u).0 (Contains-get_or found has.0 none lt) in
      (sym (ap (λ (s : SlotId). s.doc) is), ap (λ (s : SlotId). slice_get answers s.reference.0) (sym is) ∙ (are.exact u).0 h.0 ∙ ap (λ t. Some (Found t)) (same_target u h.1 h.2))

  back : (slot : SlotId) → slot.doc ≡ doc → slice_get answers slot.reference.0 ≡ Some (Found target) → Contains slots slot
  back slot same leads =
      let u : Use = record { doc = target.doc.0; node = target.node.0; reference = slot.reference.0 } in
      let has = (exact u).1 ((are.exact u).1 leads, refl, refl) in
      let is : slot_of doc u ≡ slot = λ i. record { doc = sym same i; reference = slot.reference } in
      subst (Contains slots) is (has.0, omega (arith, length-map found (slot_of doc), has.1), mapped (slot_of doc) found has.0 (slot_of doc u) u has.1 ∙ ap (slot_of doc) has.2)

  in_order : (i j : ℕ) (d : SlotId) → i < j → j < length found → SlotPrecedes (get_or slots i d) (get_or slots j d)
  in_order i j d lt within =
      let a : Use = get_or found i none in
      let b : Use = get_or found j none in
      let at_a = ((exact a).0 (Contains-get_or found i none (omega arith))) in
      let at_b = ((exact b).0 (Contains-get_or found j none within)) in
      let rises : a.reference < b.reference = (ordered i j none lt within).2 (at_a.1 ∙ sym at_b.1) (at_a.2 ∙ sym at_b.2) in
      subst (λ v. SlotPrecedes v (get_or slots j d)) (sym (mapped (slot_of doc) found i d none (omega arith)))
      (subst (SlotPrecedes (slot_of doc a)) (sym (mapped (slot_of doc) found j d none within)) (by_reference refl rises))

  pub users_in : AreUsersIn answers doc target slots
  users_in = record {
    exact = λ slot. (there slot, λ h. back slot h.0 h.1);
    ordered = λ i j d lt within. in_order i j d lt (omega (arith, length-map found (slot_of doc)));
  }

-- they are appended one by one
module _ (f : Use → SlotId) (old : List SlotId) (found : List Use) where
  pub none_added : old ≡ old ++ map f (take 0 found)
  none_added = sym (append-nil old)

  pub one_added : (now more : List SlotId) (i : ℕ) (d : Use) → i < length found → now ≡ old ++ map f (take i found) → more ≡ now ++ f (get_or found i d) ∷ [] → more ≡ old ++ map f (take (i + 1) found)
  one_added now more i d lt so_far is = is ∙ ap (λ s. s ++ f (get_or found i d) ∷ []) so_far ∙ append_assoc old (map f (take i found)) (f (get_or found i d) ∷ []) ∙ ap (λ s. old ++ s) (sym (map_more f found i d lt))

  pub all_added : (now : List SlotId) (n : ℕ) → length found ≤ n → now ≡ old ++ map f (take n found) → now ≡ old ++ map f found
  all_added now n all so_far = so_far ∙ ap (λ s. old ++ map f s) (take_all n found all)

-- ---- those of all

module _ (documents : HeldAnswers) (target : Target) where
  abbrev IsOne : SlotId → Type 0
  IsOne slot = IsHeldUser documents target slot

  -- what was gathered, and the pairs that are ahead
  pub record AreGathered (slots : List SlotId) (rest : List Pair) : Type 0 where
    pub sorted : IsStrictlySortedBy pair_cmp rest
    pub within : (p : Pair) → Contains rest p → target.doc.0 ≤ p.0
    pub sound : (slot : SlotId) → Contains slots slot → IsOne slot
    pub ordered : AllPairs SlotPrecedes slots
    pub passed : (slot : SlotId) (p : Pair) → Contains slots slot → Contains rest p → p.0 ≡ target.doc.0 → slot.doc.0 < p.1
    pub left : (slot : SlotId) → IsOne slot → Contains slots slot ⊎ Contains rest (target.doc.0, slot.doc.0)

  pub none_gathered : (pairs : BTreeSet Pair) → ArePaired documents pairs → IsOrdered pair_cmp pairs → (rest : List Pair) → rest ≡ filter (from_document target.doc.0) pairs.keys →
      (slots : List SlotId) → slots ≡ [] → AreGathered slots rest
  none_gathered pairs paired ordered rest is slots empty = subst (λ r. AreGathered slots r) (sym is) (subst (λ s. AreGathered s (filter (from_document target.doc.0) pairs.keys)) (sym empty) (record {
    sorted = IsStrictlySortedBy-filter pair_cmp (from_document target.doc.0) pairs.keys ordered;
    within = λ p has. from_is target.doc.0 p (All-contains (λ q. from_document target.doc.0 q ≡ true) _ p (filter_passes (from_document target.doc.0) pairs.keys) has);
    sound = λ slot has. none_in_nil slot has;
    ordered = λ i j d lt within. absurd (omega arith);
    passed = λ slot p has _ _. none_in_nil slot has;
    left = λ slot user. inr (
        let leads : LeadsInto user.answers target.doc.0 = record { reference = slot.reference.0; target = target; found = user.leads; into = refl } in
        let has : Contains pairs.keys (target.doc.0, slot.doc.0) = (btree_set_contains_iff pair_total pair_exact pairs (target.doc.0, slot.doc.0)).0 (paired slot.doc.0 target.doc.0 user.answers user.given leads) in
        kept_in (from_document target.doc.0) (target.doc.0, slot.doc.0) (is_from target.doc.0 (target.doc.0, slot.doc.0) (omega arith)) pairs.keys has);
  }))

  pub all_gathered : (slots : List SlotId) → AreGathered slots [] → (slot : SlotId) → Contains slots slot ↔ IsOne slot
  all_gathered slots are slot = (are.sound slot, λ user. elim (are.left slot user) as (λ _. Contains slots slot) [ inl has ↦ has | inr none ↦ none_in_nil _ none ])

  module _ (slots : List SlotId) (p : Pair) (rest : List Pair) (are : AreGathered slots (p ∷ rest)) where
    less : (q : Pair) → Contains rest q → IsBelow p q
    less q has = pair_below p q (All-contains (λ y. pair_cmp p y ≡ Less) rest q (All-from_recursion (λ y. pair_cmp p y ≡ Less) rest (sorted_head pair_cmp p rest are.sorted)) has)

    pub none_beyond : p.0 ≢ target.doc.0 → (slot : SlotId) → Contains slots slot ↔ IsOne slot
    none_beyond other slot = (
      are.sound slot,
      λ user. elim (are.left slot user) as (λ _. Contains slots slot) [
        | inl has ↦ has
        | inr ahead ↦ absurd (elim (head_or_rest p rest (target.doc.0, slot.doc.0) ahead) as (λ _. ⊥) [
          | inl same ↦ other (ap (λ (q : Pair). q.0) same)
          | inr behind ↦ other (omega (arith, (less (target.doc.0, slot.doc.0) behind).first, are.within p (at_head p rest)))
        ])
      ],
    )

    module _ (at : p.0 ≡ target.doc.0) where
      module _ (more : List SlotId) (split : (slot : SlotId) → Contains more slot ↔ (Contains slots slot ⊎ ((slot.doc.0 ≡ p.1) × IsOne slot))) (ordered : AllPairs SlotPrecedes more) where
        gathered_more : AreGathered more rest
        gathered_more = record {
          sorted = sorted_tail pair_cmp p rest are.sorted;
          within = λ q has. are.within q (in_rest p rest q has);
          sound = λ slot has. elim ((split slot).0 has) as (λ _. IsOne slot) [ inl before ↦ are.sound slot before | inr new ↦ new.1 ];
          ordered = ordered;
          passed = λ slot q has ahead same. elim ((split slot).0 has) as (λ _. slot.doc.0 < q.1) [
            | inl before ↦ are.passed slot q before (in_rest p rest q ahead) same
            | inr new ↦ omega (arith, new.0, (less q ahead).second (at ∙ sym same))
          ];
          left = λ slot user. elim (are.left slot user) as (λ _. Contains more slot ⊎ Contains rest (target.doc.0, slot.doc.0)) [
            | inl before ↦ inl ((split slot).1 (inl before))
            | inr ahead ↦ (elim (head_or_rest p rest (target.doc.0, slot.doc.0) ahead) as (λ _. Contains more slot ⊎ Contains rest (target.doc.0, slot.doc.0)) [
              | inl same ↦ inl ((split slot).1 (inr (sym (ap (λ (q : Pair). q.1) same), user)))
              | inr behind ↦ inr behind
            ])
          ];
        }

      -- nothing is held of the document of the pair
      pub gathered_none : held_at documents p.1 ≡ None → AreGathered slots rest
      gathered_none none = gathered_more slots (λ slot. (
        λ has. inl has,
        λ h. elim h as (λ _. Contains slots slot) [
          | inl has ↦ has
          | inr new ↦ absurd (wrong new.1.answers (sym none ∙ ap (held_at documents) (sym new.0) ∙ new.1.given))
        ],
      )) are.ordered
        where
          wrong : (answers : List Answer) → None ≡ Some answers → ⊥
          wrong answers e = cc

      module _ (answers : List Answer) (held : held_at documents p.1 ≡ Some answers) (doc : DocId) (doc_is : doc.0 ≡ p.1) (added : List SlotId) (are_in : AreUsersIn answers doc target added) where
        one : (other : List Answer) → Some answers ≡ Some other → answers ≡ other
        one other e = cc

        of_document : (slot : SlotId) → Contains added slot → (slot.doc.0 ≡ p.1) × IsOne slot
        of_document slot has =
            let h = (are_in.exact slot).0 has in
            let same : slot.doc.0 ≡ p.1 = ap (λ (d : DocId). d.0) h.0 ∙ doc_is in
            (same, record { answers = answers; given = ap (held_at documents) same ∙ held; leads = h.1 })

        added_if : (slot : SlotId) → slot.doc.0 ≡ p.1 → IsOne slot → Contains added slot
        added_if slot same user =
            let is : answers ≡ user.answers = one user.answers (sym held ∙ ap (held_at documents) (sym same) ∙ user.given) in
            let there : slot.doc ≡ doc = λ i. record { 0 = (same ∙ sym doc_is) i } in
            (are_in.exact slot).1 (there, ap (λ list. slice_get list slot.reference.0) is ∙ user.leads)

        pub gathered_some : AreGathered (slots ++ added) rest
        gathered_some = gathered_more (slots ++ added)
            (λ slot. (
              λ has. elim (Contains-append_cases slots added slot has) as (λ _. Contains slots slot ⊎ ((slot.doc.0 ≡ p.1) × IsOne slot)) [
                | inl before ↦ inl before
                | inr new ↦ inr (of_document slot new)
              ],
              λ h. elim h as (λ _. Contains (slots ++ added) slot) [
                | inl before ↦ Contains-append_left slots added slot before
                | inr new ↦ Contains-append_right slots added slot (added_if slot new.0 new.1)
              ],
            ))
            (pairs_joined SlotPrecedes slots added are.ordered are_in.ordered (λ s a before new.
            by_document (omega (arith, are.passed s p before (at_head p rest) at, (of_document a new).0))))
