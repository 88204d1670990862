-- Those of one node, found by halving a list in order.
use Rattle.std.proofs.Common.{◌≡◌, ◌↔◌, ℕ, ◌+◌, ◌-◌, ◌<◌, ◌≤◌, Bool, true, false, not, ◌==◌, ◌&&◌, ◌||◌, nat_lt, List, Contains, AllPairs, length, get_or, take, drop, refl, sym, ap, subst, ◌∙◌, inl, inr, arith}
use Rattle.std.specs.List.Sorted.{IsPartitionedBy, IsPartitionPoint}
use Rattle.std.proofs.lemmas.Bool.{cases_lt}
use Rattle.std.proofs.lemmas.Bool.Decides.{nat_tests}
use Rattle.std.proofs.lemmas.List.{get_or-take, get_or-drop, length-take, length-drop}
use Rattle.lw_index.specs.declared.refs.uses.Use.{Use}
use Rattle.lw_index.specs.Uses.{UsePrecedes, is_before, is_behind}

-- ---- the tests on numbers

abbrev less : ℕ → ℕ → ℕ → ℕ → Bool
less a b c d = nat_lt a c || ((a == c) && nat_lt b d)

less_of : (a b c d : ℕ) → (a ≤ c) → (a ≡ c → b < d) → less a b c d ≡ true
less_of a b c d le h = grind (arith, nat_tests)

below_of : (a b c d : ℕ) → less a b c d ≡ true → (a ≤ c) × (a ≡ c → b < d)
below_of a b c d h = grind (arith, nat_tests)

not_less : (a b c d : ℕ) → less a b c d ≡ false → (c ≤ a) × (a ≡ c → d ≤ b)
not_less a b c d h = grind (arith, nat_tests)

not_less_of : (a b c d : ℕ) → (c ≤ a) → (a ≡ c → d ≤ b) → less a b c d ≡ false
not_less_of a b c d le h = grind (arith, nat_tests)

not_true : (b : Bool) → not b ≡ true → b ≡ false
not_true true h = cc
not_true false h = refl

not_of_false : (b : Bool) → b ≡ false → not b ≡ true
not_of_false b h = ap not h

both_ways : {G : Type 0} (b : Bool) → b ≡ true → b ≡ false → G
both_ways true h k = cc
both_ways false h k = cc

-- ---- the list is in two parts by each of them

equal_or_before : {G : Type 0} (i j : ℕ) → i ≤ j → (i ≡ j → G) → (i < j → G) → G
equal_or_before {G} i j le same before = elim (cases_lt i j) as (λ _. G) [ inl lt ↦ before lt | inr ge ↦ same (omega arith) ]

module _ (doc node : ℕ) (xs : List Use) (ordered : AllPairs UsePrecedes xs) where
  before_back : (a b : Use) → UsePrecedes a b → is_before doc node b ≡ true → is_before doc node a ≡ true
  before_back a b h is =
      let x = below_of b.doc b.node doc node is in
      less_of a.doc a.node doc node (omega (arith, h.0, x.0)) (λ e. omega (arith, e, h.0, h.1, x.0, x.1))

  not_behind_back : (a b : Use) → UsePrecedes a b → not (is_behind doc node b) ≡ true → not (is_behind doc node a) ≡ true
  not_behind_back a b h is =
      let x = not_less doc node b.doc b.node (not_true _ is) in
      not_of_false _ (not_less_of doc node a.doc a.node (omega (arith, h.0, x.0)) (λ e. omega (arith, e, h.0, h.1, x.0, x.1)))

  pub parts_before : IsPartitionedBy (is_before doc node) xs
  parts_before i j d le within is = equal_or_before i j le
      (λ same. subst (λ k. is_before doc node (get_or xs k d) ≡ true) (sym same) is)
      (λ lt. before_back (get_or xs i d) (get_or xs j d) (ordered i j d lt within) is)

  pub parts_behind : IsPartitionedBy (λ u. not (is_behind doc node u)) xs
  parts_behind i j d le within is = equal_or_before i j le
      (λ same. subst (λ k. not (is_behind doc node (get_or xs k d)) ≡ true) (sym same) is)
      (λ lt. not_behind_back (get_or xs i d) (get_or xs j d) (ordered i j d lt within) is)

  module _ (start end : ℕ) (first : IsPartitionPoint (λ u. is_before doc node u ≡ true) (λ u. is_before doc node u ≡ false) xs start) where
    module _ (last : IsPartitionPoint (λ u. not (is_behind doc node u) ≡ true) (λ u. not (is_behind doc node u) ≡ false) xs end)
        (start_within : start ≤ length xs) (end_within : end ≤ length xs) where
      -- an element that comes before the node is not behind it
      not_both : (u : Use) {G : Type 0} → is_before doc node u ≡ true → not (is_behind doc node u) ≡ false → G
      not_both u before behind =
          let x = below_of u.doc u.node doc node before in
          both_ways _ (not_of_false _ (not_less_of doc node u.doc u.node x.0 (λ e. omega (arith, e, x.1)))) behind

      at_node : (u : Use) → is_before doc node u ≡ false → not (is_behind doc node u) ≡ true → (u.doc ≡ doc) × (u.node ≡ node)
      at_node u before behind =
          let x = not_less u.doc u.node doc node before in
          let y = not_less doc node u.doc u.node (not_true _ behind) in
          (omega (arith, x.0, y.0), omega (arith, x.0, y.0, x.1, y.1))

      not_before_node : (u : Use) → u.doc ≡ doc → u.node ≡ node → is_before doc node u ≡ false
      not_before_node u e f = not_less_of u.doc u.node doc node (omega arith) (λ g. omega arith)

      not_behind_node : (u : Use) → u.doc ≡ doc → u.node ≡ node → not (is_behind doc node u) ≡ true
      not_behind_node u e f = not_of_false _ (not_less_of doc node u.doc u.node (omega arith) (λ g. omega arith))

      abbrev none : Use
      none = record { doc = 0; node = 0; reference = 0 }

      pub start_first : start ≤ end
      start_first = elim (cases_lt end start) as (λ _. start ≤ end) [
        | inl lt ↦ not_both (get_or xs end none) (first.0 end none (omega arith) lt) (last.1 end none (omega arith) (omega arith))
        | inr ge ↦ ge
      ]

      abbrev stretch : List Use
      stretch = take (end - start) (drop start xs)

      place_in : (k : ℕ) (d : Use) → k < end - start → get_or stretch k d ≡ get_or xs (start + k) d
      place_in k d lt = get_or-take (end - start) (drop start xs) k d lt ∙ get_or-drop start xs k d

      room : length stretch ≡ end - start
      room = omega (arith, length-take (end - start) (drop start xs), length-drop start xs)

      pub stretch_exact : (u : Use) → Contains stretch u ↔ (Contains xs u × (u.doc ≡ doc) × (u.node ≡ node))
      stretch_exact u = (λ has. there has.0 (omega (arith, room, has.1)) has.2, λ h. back h.0.0 h.0.1 h.0.2 h.1 h.2)
        where
          there : (k : ℕ) → k < end - start → get_or stretch k u ≡ u → Contains xs u × (u.doc ≡ doc) × (u.node ≡ node)
          there k lt is =
              let at : get_or xs (start + k) u ≡ u = sym (place_in k u lt) ∙ is in
              let before : is_before doc node u ≡ false = subst (λ v. is_before doc node v ≡ false) at (first.1 (start + k) u (omega arith) (omega arith)) in
              let behind : not (is_behind doc node u) ≡ true = subst (λ v. not (is_behind doc node v) ≡ true) at (last.0 (start + k) u (omega arith) (omega arith)) in
              let h = at_node u before behind in
              ((start + k, omega arith, at), h.0, h.1)

          back : (k : ℕ) → k < length xs → get_or xs k u ≡ u → u.doc ≡ doc → u.node ≡ node → Contains stretch u
          back k lt is e f =
              let from : start ≤ k = elim (cases_lt k start) as (λ _. start ≤ k) [
                | inl under ↦ both_ways _ (subst (λ v. is_before doc node v ≡ true) is (first.0 k u (omega arith) under)) (not_before_node u e f)
                | inr ge ↦ ge
              ] in
              let to : k < end = elim (cases_lt k end) as (λ _. k < end) [
                | inl under ↦ under
                | inr ge ↦ both_ways _ (not_behind_node u e f) (subst (λ v. not (is_behind doc node v) ≡ false) is (last.1 k u ge lt))
              ] in
              (k - start, omega (arith, room), place_in (k - start) u (omega arith) ∙ ap (λ n. get_or xs n u) (omega arith) ∙ is)

      pub stretch_ordered : AllPairs UsePrecedes stretch
      stretch_ordered i j d lt within =
          let n : j < end - start = omega (arith, room) in
          subst (λ v. UsePrecedes v (get_or stretch j d)) (sym (place_in i d (omega arith)))
          (subst (λ v. UsePrecedes (get_or xs (start + i) d) v) (sym (place_in j d n)) (ordered (start + i) (start + j) d (omega arith) (omega arith)))

-- ---- the first of a document

module _ (doc : ℕ) (xs : List Use) (ordered : AllPairs UsePrecedes xs) (start : ℕ) (first : IsPartitionPoint (λ u. is_before doc 0 u ≡ true) (λ u. is_before doc 0 u ≡ false) xs start) where
  pub first_into : (u : Use) → Contains xs u → u.doc ≡ doc → (start < length xs) × ((get_or xs start u).doc ≡ doc)
  first_into u has e = by has.0 has.1 has.2
    where
      by : (k : ℕ) → k < length xs → get_or xs k u ≡ u → (start < length xs) × ((get_or xs start u).doc ≡ doc)
      by k lt is =
          let from : start ≤ k = elim (cases_lt k start) as (λ _. start ≤ k) [
            | inl under ↦ both_ways _ (subst (λ v. is_before doc 0 v ≡ true) is (first.0 k u (omega arith) under)) (not_less_of u.doc u.node doc 0 (omega arith) (λ g. omega arith))
            | inr ge ↦ ge
          ] in
          let found : Use = get_or xs start u in
          let least = not_less found.doc found.node doc 0 (first.1 start u (omega arith) (omega arith)) in
          let most : found.doc ≤ u.doc = equal_or_before start k from
          (λ same. let at : found ≡ u = ap (λ n. get_or xs n u) same ∙ is in omega (arith, ap (λ (v : Use). v.doc) at))
          (λ before. subst (λ (v : Use). found.doc ≤ v.doc) is (ordered start k u before lt).0) in
          (omega arith, omega (arith, least.0))
