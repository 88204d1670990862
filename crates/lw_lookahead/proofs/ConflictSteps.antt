-- The heads that the least pair of ways has in common are those of the second whose first way is the first.
use Rattle.std.proofs.Common.{◌≡◌, ℕ, ◌+◌, ◌-◌, ◌<◌, ◌≤◌, List, Some, Contains, ◌⊎◌, inl, inr, ◌↔◌, length, get_or, slice_get, sym, ap, ◌∙◌, subst, arith}
use Rattle.std.proofs.lemmas.Bool.{cases_lt}
use Rattle.std.proofs.lemmas.Option.{same_Some, slice_get-get_or, slice_get_within}
use Rattle.lw_first.specs.declared.heads.head.Head.{Head}
use Rattle.lw_first.specs.Heads.{kinds_in}
use Rattle.lw_lookahead.specs.Entries.{AreEntries, AreFirstWays, IsLeastPair, IsNoLaterPair, IsOfBoth, of_ways}
use Rattle.lw_lookahead.specs.Shared.{IsFirstPrinted}
use Rattle.lw_lookahead.proofs.WayHeads.{of_ways_has}

-- heads have one first way
pub entries_known : (pairs entries : List (Head × ℕ)) (k : ℕ) → AreFirstWays pairs entries →
    ((head : Head) (way : ℕ) → Contains pairs (head, way) → length (kinds_in head) ≤ k) → AreEntries k entries
entries_known pairs entries k first short = record {
  once = λ head way other one two. omega (arith, first.first head way other one (first.no_others head other two), first.first head other way two (first.no_others head way one));
  short = λ head way has. short head way (first.no_others head way has);
}

pub printed_as : (texts : List (List ℕ)) (k : ℕ) (one other : Head → Type 0) → ((head : Head) → one head ↔ other head) → (head : Head) (text : List ℕ) →
    IsFirstPrinted texts k one head text → IsFirstPrinted texts k other head text
printed_as texts k one other same head text first = record {
  is = (same head).0 first.is;
  printed_so = first.printed_so;
  first = λ h is. first.first h ((same h).1 is);
}

module _ (ways : List (List Head)) (pair : ℕ × ℕ) (least : IsLeastPair (of_ways 1 ways) pair) where
  -- the second way is there
  pub second_within : (1 ≤ pair.1) × (pair.1 - 1 < length ways)
  second_within =
      let (i, heads, is, at, has) = (of_ways_has 1 ways least.head pair.1).0 least.of_both.1 in
      let inside = slice_get_within ways i heads at in
      (omega arith, omega arith)

  module _ (entries : List (Head × ℕ)) (first : AreFirstWays (of_ways 1 ways) entries) (n : ℕ) (own heads : List Head) (is : n ≡ pair.1 - 1)
      (there : own ≡ get_or ways n own) (same : heads ≡ own) where
    at : slice_get ways (pair.1 - 1) ≡ Some heads
    at = slice_get-get_or ways (pair.1 - 1) own second_within.1 ∙ ap Some (ap (λ n. get_or ways n own) (sym is) ∙ sym there ∙ sym same)

    pub are_both : (head : Head) → (Contains heads head × Contains entries (head, pair.0)) ↔ IsOfBoth (of_ways 1 ways) pair.0 pair.1 head
    are_both head = (λ one. to one.0 one.1, λ both. from both)
      where
        to : Contains heads head → Contains entries (head, pair.0) → IsOfBoth (of_ways 1 ways) pair.0 pair.1 head
        to has entry =
            let last : pair.1 ≡ 1 + (pair.1 - 1) = omega (arith, second_within.0) in
            (first.no_others head pair.0 entry, (of_ways_has 1 ways head pair.1).1 (pair.1 - 1, heads, last, at, has))

        its_own : Contains (of_ways 1 ways) (head, pair.1) → Contains heads head
        its_own has =
            let (i, found, is, there, inside) = (of_ways_has 1 ways head pair.1).0 has in
            let place : i ≡ pair.1 - 1 = omega arith in
            let same : found ≡ heads = same_Some found heads (sym there ∙ ap (slice_get ways) place ∙ at) in
            subst (λ hs. Contains hs head) same inside

        never : (w : ℕ) → w < pair.0 → ¬ IsNoLaterPair pair w pair.0
        never w less (inl later) = omega arith
        never w less (inr (same, up)) = omega arith

        from : IsOfBoth (of_ways 1 ways) pair.0 pair.1 head → Contains heads head × Contains entries (head, pair.0)
        from (one, other) =
            let (w, entry) = first.all head pair.0 one in
            let up = first.first head w pair.0 entry one in
            let is : w ≡ pair.0 = by w entry up (cases_lt w pair.0) in
            (its_own other, subst (λ n. Contains entries (head, n)) is entry)
          where
            by : (w : ℕ) → Contains entries (head, w) → w ≤ pair.0 → (w < pair.0) ⊎ (pair.0 ≤ w) → w ≡ pair.0
            by w entry up (inl less) = absurd (never w less (least.least w pair.0 head less (first.no_others head w entry, one)))
            by w entry up (inr same) = omega arith
