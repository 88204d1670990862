-- What stands where in the order of states.
use Rattle.std.proofs.Common.{◌≡◌, ℕ, ◌+◌, ◌<◌, ◌≤◌, List, [], ◌∷◌, ◌++◌, length, vec_len, get_or, slice_index, Contains, ap, subst, inl, inr, arith}
use Rattle.std.specs.List.Sorted.{IsPermutation, IsNonDecreasingBy}
use Rattle.std.proofs.lemmas.Bool.{cases_lt}
use Rattle.std.proofs.lemmas.List.Elements.{at_from_Contains, Contains-append_left, Contains-push}
use Rattle.std.proofs.lemmas.List.Sorted.{All-permutation, Contains-permutation}
use Rattle.regex_nfa.specs.States.{IsBelow}
use Rattle.regex_nfa.specs.declared.nfa.Nfa.{Nfa}
use Rattle.lw_matching.specs.declared.lengths.order.Ranked.{Ranked}
use Rattle.lw_matching.specs.Order.{ranked, IsRanked, AreRanked, IsOrder}

module _ (nfa : Nfa) where
  -- the states below n are in the list
  abbrev pub HasBelow : ℕ → List Ranked → Type 0
  HasBelow n list = (q : ℕ) → q < n → Contains list (ranked nfa q)

  pub has_next : (n : ℕ) (list : List Ranked) → HasBelow n list → HasBelow (n + 1) (list ++ ranked nfa n ∷ [])
  has_next n list has q below = elim (cases_lt q n) [
    | inl lt ↦ Contains-append_left list (ranked nfa n ∷ []) (ranked nfa q) (has q lt)
    | inr ge ↦ (let same : n ≡ q = omega (arith, below, ge) in
        subst (λ (m : ℕ). Contains (list ++ ranked nfa n ∷ []) (ranked nfa m)) same (Contains-push list (ranked nfa n)))
  ]

  pub sorted_order : (list order : List Ranked) → AreRanked nfa list → IsPermutation list order → IsNonDecreasingBy (λ (r : Ranked). r.rank) order →
      IsOrder nfa order
  sorted_order list order are moved rises = record {
    ranked = record {
      complete = λ q below. Contains-permutation list order (ranked nfa q) moved (are.complete q below);
      each = All-permutation (IsRanked nfa) list order moved are.each;
    };
    rises = rises;
  }

  module _ (order : List Ranked) (is : IsOrder nfa order) where
    -- each state stands somewhere in the order
    pub stands : (q : ℕ) → q < vec_len nfa.states → (k : ℕ) × (k < length order) × ((d : Ranked) → get_or order k d ≡ ranked nfa q)
    stands q below = at_from_Contains order (ranked nfa q) (is.ranked.complete q below)

    -- a state that is below another stands before it
    pub stands_before : (r k j : ℕ) (d : Ranked) → k < length order → get_or order k d ≡ ranked nfa r → j < length order →
        IsBelow nfa.ranks.items r (get_or order j d).state → k < j
    stands_before r k j d inside there within below = elim (cases_lt k j) [
      | inl lt ↦ lt
      | inr ge ↦ (let up : (get_or order j d).rank ≤ (get_or order k d).rank = is.rises j k d ge inside in
          let own : (get_or order j d).rank ≡ slice_index nfa.ranks.items (get_or order j d).state = ap (λ (one : Ranked). one.rank) (is.ranked.each j d within).1 in
          let its : (get_or order k d).rank ≡ slice_index nfa.ranks.items r = ap (λ (one : Ranked). one.rank) there in
          absurd (omega (arith, up, own, its, below.1)))
    ]
