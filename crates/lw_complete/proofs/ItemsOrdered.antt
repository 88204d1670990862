-- Items that were sorted, and of which doubles were taken out, are offers in order.
use Rattle.std.proofs.Common.{◌≡◌, ◌↔◌, ◌⊎◌, inl, inr, zero, suc, ◌∷◌, [], ℕ, ◌<◌, List, Bool, true, false, ◌&&◌, All, Contains, AllPairs, Ordering, length, map, get_or, nat_eq, bytes_eq, refl, sym, ap, ◌∙◌, subst, arith}
use Rattle.std.specs.List.{dedup}
use Rattle.std.specs.List.Sorted.{IsSorted, IsPermutation}
use Rattle.std.specs.Ordering.{nat_cmp, ordering_then, eq_by_cmp, MatchOrdering}
use Rattle.std.specs.declared.cmp.Ordering.TheVariants.{Less, Equal, Greater}
use Rattle.std.specs.Cmp.{IsTotalOrder, IsEquivalence, both_tied, unsigned_ties}
use Rattle.std.specs.Cmp.Lexicographic.{slice_cmp, texts_ties}
use Rattle.std.proofs.lemmas.Cmp.{ranked, then_total, on_total, nat_cmp_total, nat_list_cmp_total, nat_list_eq_equiv, nat_eq_equiv, and_equiv, on_equiv}
use Rattle.std.proofs.lemmas.Bool.{eqb-true}
use Rattle.std.proofs.lemmas.List.{length-map}
use Rattle.std.proofs.lemmas.List.Elements.{All-append, All-map, Contains-append_cases, Contains-append_left, Contains-append_right}
use Rattle.std.proofs.lemmas.List.Filters.{All-dedup}
use Rattle.std.proofs.lemmas.List.Kept.{Contains-dedup, Contains-from_dedup, IsStrictlySortedBy-dedup}
use Rattle.std.proofs.lemmas.List.Sorted.{All-permutation, Contains-permutation, IsPermutation-sym}
use Rattle.std.proofs.lemmas.Map.Keys.{Less-from_sorted}
use Rattle.std.proofs.lemmas.Slice.Eq.{bytes_eq-Decides}
use Rattle.std.proofs.Math.ListN.{get_or-map}
use Rattle.lw_reading.proofs.Listed.{mapped}
use Rattle.lw_places.specs.Offers.{Offer, OfferPrecedes, by_kind, by_label, keyword_offer, name_offer}
use Rattle.lw_complete.specs.declared.item.Item.{Item}
use Rattle.lw_complete.specs.Items.{TakesThePlace, item_of, items_of, offer_of}

-- ---- the order

abbrev pub item_cmp : Item → Item → Ordering
item_cmp x y = ordering_then (slice_cmp nat_cmp x.label y.label) (ordering_then (nat_cmp x.kind y.kind) (ordering_then (nat_cmp x.from y.from) (nat_cmp x.to y.to)))

item_total : IsTotalOrder item_cmp
item_total =
    then_total (on_total (λ (i : Item). i.label) nat_list_cmp_total)
    (then_total (on_total (λ (i : Item). i.kind) nat_cmp_total) (then_total (on_total (λ (i : Item). i.from) nat_cmp_total) (on_total (λ (i : Item). i.to) nat_cmp_total)))

abbrev pub item_eq : Item → Item → Bool
item_eq x y = bytes_eq x.label y.label && (nat_eq x.kind y.kind && (nat_eq x.from y.from && nat_eq x.to y.to))

item_ties : (x y : Item) → item_eq x y ≡ eq_by_cmp item_cmp x y
item_ties x y =
    both_tied _ _ _ _ (texts_ties x.label y.label)
    (both_tied _ _ _ _ (unsigned_ties x.kind y.kind) (both_tied _ _ _ _ (unsigned_ties x.from y.from) (unsigned_ties x.to y.to)))

item_equiv : IsEquivalence item_eq
item_equiv =
    and_equiv (on_equiv (λ (i : Item). i.label) nat_list_eq_equiv)
    (and_equiv (on_equiv (λ (i : Item). i.kind) nat_eq_equiv) (and_equiv (on_equiv (λ (i : Item). i.from) nat_eq_equiv) (on_equiv (λ (i : Item). i.to) nat_eq_equiv)))

both : (a b : Bool) → (a && b) ≡ true → (a ≡ true) × (b ≡ true)
both true b is = (refl, is)
both false b is = cc

item_parts : {m n : List ℕ} {a b c p q r : ℕ} → m ≡ n → a ≡ p → b ≡ q → c ≡ r →
    let one : Item = record { label = m; kind = a; from = b; to = c } in one ≡ record { label = n; kind = p; from = q; to = r }
item_parts label kind from to = cc

item_exact : (x y : Item) → item_eq x y ≡ true → x ≡ y
item_exact x y is =
    let label = both _ _ is in
    let kind = both _ _ label.1 in
    let from = both _ _ kind.1 in
    item_parts ((bytes_eq-Decides x.label y.label).0 label.0) (eqb-true x.kind y.kind kind.0) (eqb-true x.from y.from from.0) (eqb-true x.to y.to from.1)

-- ---- by label, then by kind

-- by the labels and then by the rest
first_or : {G : Type 0} (a b : List ℕ) (rest : Ordering) → ordering_then (slice_cmp nat_cmp a b) rest ≡ Less → (slice_cmp nat_cmp a b ≡ Less → G) → (a ≡ b → rest ≡ Less → G) → G
first_or {G} a b rest is less same = by (slice_cmp nat_cmp a b) refl is
  where
    tied : slice_cmp nat_cmp a b ≡ Equal → a ≡ b
    tied equal = (bytes_eq-Decides a b).0 (texts_ties a b ∙ ap (λ o. eq_by_cmp (λ (_ : ℕ) (_ : ℕ). o) 0 0) equal)

    by : (o : Ordering) → slice_cmp nat_cmp a b ≡ o → ordering_then o rest ≡ Less → G
    by Less this _ = less this
    by Equal this is = same (tied this) is
    by Greater _ is = cc

-- by a number and then by the rest
next_or : {G : Type 0} (a b : ℕ) (rest : Ordering) → ordering_then (nat_cmp a b) rest ≡ Less → (a < b → G) → (a ≡ b → rest ≡ Less → G) → G
next_or {G} a b rest is below same = by (nat_cmp a b) (ranked a b (nat_cmp a b) refl) is
  where
    by : (o : Ordering) → MatchOrdering o (a < b) (a ≡ b) (b < a) → ordering_then o rest ≡ Less → G
    by Less less _ = below less
    by Equal tied is = same tied is
    by Greater above is = cc

below_itself : {a b : ℕ} → a ≡ b → nat_cmp a b ≡ Less → ⊥
below_itself {a} {b} same less = by (nat_cmp a b) (ranked a b (nat_cmp a b) refl) less
  where
    by : (o : Ordering) → MatchOrdering o (a < b) (a ≡ b) (b < a) → o ≡ Less → ⊥
    by Less less _ = omega (arith, same, less)
    by Equal tied is = cc
    by Greater above is = cc

module _ (from to : ℕ) where
  precedes : (x y : Item) → TakesThePlace from to x → TakesThePlace from to y → item_cmp x y ≡ Less → OfferPrecedes (offer_of x) (offer_of y)
  precedes x y here there is =
      first_or x.label y.label _ is by_label
      (λ label is. next_or x.kind y.kind _ is (by_kind label)
      (λ kind is. absurd (next_or x.from y.from _ is (λ below. omega (arith, here.0, there.0, below)) (λ _ is. below_itself (here.1 ∙ sym there.1) is))))

-- ---- what is mapped

module _ {X Y : Type 0} (f : X → Y) where
  pub of_mapped : (xs : List X) (y : Y) → Contains (map f xs) y → (x : X) × Contains xs x × (f x ≡ y)
  of_mapped [] y (k, inside, is) = absurd (omega (arith, inside))
  of_mapped (x ∷ xs) y (zero, inside, is) = (x, (0, omega arith, refl), is)
  of_mapped (x ∷ xs) y (suc k, inside, is) =
      let (z, (n, within, at), same) = of_mapped xs y (k, omega (arith, inside), is) in (z, (suc n, omega (arith, within), at), same)

-- ---- the list

module _ (found sorted : List Item) (moved : IsPermutation found sorted) where
  pub kept : (x : Item) → Contains (dedup item_eq sorted) x ↔ Contains found x
  kept x = (
    λ has. Contains-permutation sorted found x (IsPermutation-sym found sorted moved) (Contains-from_dedup item_eq sorted x has),
    λ has. Contains-dedup item_equiv item_exact sorted x (Contains-permutation found sorted x moved has),
  )

  module _ (from to : ℕ) (here : All (TakesThePlace from to) found) where
    pub all_here : All (TakesThePlace from to) (dedup item_eq sorted)
    all_here = All-dedup item_eq (TakesThePlace from to) sorted (All-permutation (TakesThePlace from to) found sorted moved here)

    at_default : Offer → Item
    at_default d = item_of d.kind from to d.label

    kept_at : (xs : List Item) (k : ℕ) (d : Offer) → get_or (map offer_of xs) k d ≡ offer_of (get_or xs k (at_default d))
    unfolding at_default
    kept_at xs k d = get_or-map offer_of xs k (at_default d)

    pub in_order : IsSorted item_cmp sorted → AllPairs OfferPrecedes (map offer_of (dedup item_eq sorted))
    in_order up i j d below inside =
        let left : List Item = dedup item_eq sorted in
        let shorter : j < length left = subst (λ n. j < n) (length-map left offer_of) inside in
        let less = Less-from_sorted item_cmp left i j (at_default d) (IsStrictlySortedBy-dedup item_total item_ties sorted up) below shorter in
        let P : Offer → Type 0 = λ one. OfferPrecedes one (get_or (map offer_of left) j d) in
        let Q : Offer → Type 0 = λ other. OfferPrecedes (offer_of (get_or left i (at_default d))) other in
        subst P (sym (kept_at left i d)) (subst Q (sym (kept_at left j d))
        (precedes from to (get_or left i (at_default d)) (get_or left j (at_default d)) (all_here i (at_default d) (omega (arith, below, shorter)))
        (all_here j (at_default d) shorter) less))

-- ---- keywords and names

module _ (from to : ℕ) (keywords names : List (List ℕ)) (sorted : List Item) (moved : IsPermutation (items_of from to keywords names) sorted) where
  abbrev left : List Item
  left = dedup item_eq sorted

  offered : (x : Offer) → Contains (map offer_of left) x → Contains (map keyword_offer keywords) x ⊎ Contains (map name_offer names) x
  offered x has =
      let (item, among, same) = of_mapped offer_of left x has in
      of item same (Contains-append_cases (map (item_of 14 from to) keywords) (map (item_of 18 from to) names) item
      ((kept (items_of from to keywords names) sorted moved item).0 among))
    where
      of : (item : Item) → offer_of item ≡ x → Contains (map (item_of 14 from to) keywords) item ⊎ Contains (map (item_of 18 from to) names) item →
          Contains (map keyword_offer keywords) x ⊎ Contains (map name_offer names) x
      of item same (inl among) =
          let (label, has, is) = of_mapped (item_of 14 from to) keywords item among in
          inl (subst (Contains (map keyword_offer keywords)) (ap offer_of is ∙ same) (mapped keyword_offer keywords label has))
      of item same (inr among) =
          let (label, has, is) = of_mapped (item_of 18 from to) names item among in
          inr (subst (Contains (map name_offer names)) (ap offer_of is ∙ same) (mapped name_offer names label has))

  handed : (x : Offer) → Contains (map keyword_offer keywords) x ⊎ Contains (map name_offer names) x → Contains (map offer_of left) x
  handed x (inl has) =
      let (label, among, is) = of_mapped keyword_offer keywords x has in
      let item = item_of 14 from to label in
      subst (Contains (map offer_of left)) is
      (mapped offer_of left item ((kept (items_of from to keywords names) sorted moved item).1
      (Contains-append_left (map (item_of 14 from to) keywords) (map (item_of 18 from to) names) item (mapped (item_of 14 from to) keywords label among))))
  handed x (inr has) =
      let (label, among, is) = of_mapped name_offer names x has in
      let item = item_of 18 from to label in
      subst (Contains (map offer_of left)) is
      (mapped offer_of left item ((kept (items_of from to keywords names) sorted moved item).1
      (Contains-append_right (map (item_of 14 from to) keywords) (map (item_of 18 from to) names) item (mapped (item_of 18 from to) names label among))))

  here : All (TakesThePlace from to) (items_of from to keywords names)
  here =
      All-append (TakesThePlace from to) (map (item_of 14 from to) keywords) (map (item_of 18 from to) names)
      (All-map (TakesThePlace from to) (item_of 14 from to) keywords (λ k d inside. (refl, refl)))
      (All-map (TakesThePlace from to) (item_of 18 from to) names (λ k d inside. (refl, refl)))

  pub both_exact : (x : Offer) → Contains (map offer_of (dedup item_eq sorted)) x ↔ (Contains (map keyword_offer keywords) x ⊎ Contains (map name_offer names) x)
  both_exact x = (offered x, handed x)

  pub both_in_order : IsSorted item_cmp sorted → AllPairs OfferPrecedes (map offer_of (dedup item_eq sorted))
  both_in_order up = in_order (items_of from to keywords names) sorted moved from to here up

  pub both_here : All (TakesThePlace from to) (dedup item_eq sorted)
  both_here = all_here (items_of from to keywords names) sorted moved from to here
