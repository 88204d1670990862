-- The spans of references, gathered one after the other, and brought into order.
use Rattle.std.proofs.Common.{◌≡◌, ◌≢◌, ℕ, ◌+◌, ◌<◌, ◌≤◌, List, Bool, true, false, ◌&&◌, [], ◌∷◌, ◌++◌, Some, Contains, AllPairs, Ordering, map, length, get_or, nat_eq, slice_get, refl, sym, ap, ◌∙◌, subst, arith, inl, inr}
use Rattle.std.specs.Prelude.{◌⊎◌, ◌↔◌}
use Rattle.std.specs.List.{dedup}
use Rattle.std.specs.List.Sorted.{IsSorted, IsPermutation}
use Rattle.std.specs.Ordering.{nat_cmp, ordering_then, eq_by_cmp, MatchOrdering}
use Rattle.std.specs.declared.cmp.Ordering.TheVariants.{Less, Equal, Greater}
use Rattle.std.specs.Cmp.{IsTotalOrder, IsEquivalence, both_tied, unsigned_ties}
use Rattle.std.proofs.lemmas.Cmp.{ranked, then_total, on_total, nat_cmp_total, nat_eq_equiv, and_equiv, on_equiv}
use Rattle.std.proofs.Math.ListN.{get_or-map}
use Rattle.std.proofs.lemmas.List.{length-map}
use Rattle.std.proofs.lemmas.Bool.{eqb-true, cases_lt}
use Rattle.std.proofs.lemmas.List.Elements.{Contains-append_left, Contains-push, Contains-push_cases}
use Rattle.std.proofs.lemmas.List.Kept.{Contains-dedup, Contains-from_dedup, IsStrictlySortedBy-dedup}
use Rattle.std.proofs.lemmas.List.Sorted.{Contains-permutation, IsPermutation-sym}
use Rattle.std.proofs.lemmas.Map.Keys.{Less-from_sorted}
use Rattle.std.proofs.lemmas.Option.{same_Some, slice_get_within}
use Rattle.lw_base.specs.declared.token.Span.{Span}
use Rattle.lw_index.specs.declared.parts.Answer.{Answer}
use Rattle.lw_index.specs.declared.parts.Answer.TheVariants.{Found}
use Rattle.lw_index.specs.declared.parts.Target.{Target}
use Rattle.lw_tree.specs.declared.node.Reference.{Reference}
use Rattle.lw_tree.specs.Parts.{Parts}
use Rattle.lw_rename.specs.SpansOf.{IsUseSpan, SpanPrecedes, by_start, by_end, keyed_span}
use Rattle.lw_rename.specs.declared.mentions.SpanKey.{SpanKey}
use Rattle.lw_rename.proofs.Listing.{at_place_of, is_among, mapped_from, among_mapped}

pub same_key : (k j : SpanKey) → keyed_span k ≡ keyed_span j → k ≡ j
same_key k j same = λ i. record { start = (same i).start; end = (same i).end }

-- ---- gathered

module _ (tree : Parts) (answers : List Answer) (target : Target) where
  -- those of the first so many references
  abbrev pub AreUsesBelow : ℕ → List SpanKey → Type 0
  AreUsesBelow n keys = (k : SpanKey) → Contains keys k ↔ ((cited : IsUseSpan tree answers target (keyed_span k)) × (cited.number < n))

  pub one_use_more : (n : ℕ) (keys : List SpanKey) (r : Reference) (key : SpanKey) → AreUsesBelow n keys → slice_get tree.refs n ≡ Some r →
      slice_get answers n ≡ Some (Found target) → keyed_span key ≡ r.span → AreUsesBelow (n + 1) (keys ++ key ∷ [])
  one_use_more n keys r key are ref leads span k = (to, from)
    where
      to : Contains (keys ++ key ∷ []) k → (cited : IsUseSpan tree answers target (keyed_span k)) × (cited.number < n + 1)
      to has = elim (Contains-push_cases keys key k has) [
        | inl old ↦ let (cited, below) = (are k).0 old in (cited, omega (arith, below))
        | inr same ↦ (record { number = n; r = r; there = ref; leads = leads; here = sym span ∙ ap keyed_span same }, omega arith)
      ]

      from : (cited : IsUseSpan tree answers target (keyed_span k)) × (cited.number < n + 1) → Contains (keys ++ key ∷ []) k
      from (cited, below) = elim (cases_lt cited.number n) [
        | inl lower ↦ Contains-append_left keys (key ∷ []) k ((are k).1 (cited, lower))
        | inr up ↦
            let number : cited.number ≡ n = omega (arith, below, up) in
            let same : cited.r ≡ r = same_Some cited.r r (sym cited.there ∙ ap (slice_get tree.refs) number ∙ ref) in
            let key_is : key ≡ k = same_key key k (span ∙ ap (λ (x : Reference). x.span) (sym same) ∙ cited.here) in
            subst (Contains (keys ++ key ∷ [])) key_is (Contains-push keys key)
      ]

  pub no_use_more : (n : ℕ) (keys : List SpanKey) → AreUsesBelow n keys → slice_get answers n ≢ Some (Found target) → AreUsesBelow (n + 1) keys
  no_use_more n keys are not k = (to, from)
    where
      to : Contains keys k → (cited : IsUseSpan tree answers target (keyed_span k)) × (cited.number < n + 1)
      to has = let (cited, below) = (are k).0 has in (cited, omega (arith, below))

      from : (cited : IsUseSpan tree answers target (keyed_span k)) × (cited.number < n + 1) → Contains keys k
      from (cited, below) = elim (cases_lt cited.number n) [
        | inl lower ↦ (are k).1 (cited, lower)
        | inr up ↦ let number : cited.number ≡ n = omega (arith, below, up) in absurd (not (ap (slice_get answers) (sym number) ∙ cited.leads))
      ]

  pub all_uses : (n : ℕ) (keys : List SpanKey) → AreUsesBelow n keys → length tree.refs ≤ n → (k : SpanKey) → Contains keys k ↔ IsUseSpan tree answers target (keyed_span k)
  all_uses n keys are up k = (
    λ has. ((are k).0 has).0,
    λ cited. let inside = slice_get_within tree.refs cited.number cited.r cited.there in (are k).1 (cited, omega (arith, inside, up)),
  )

-- ---- brought into order

abbrev pub key_cmp : SpanKey → SpanKey → Ordering
key_cmp x y = ordering_then (nat_cmp x.start y.start) (nat_cmp x.end y.end)

key_total : IsTotalOrder key_cmp
key_total = then_total (on_total (λ t. t.start) nat_cmp_total) (on_total (λ t. t.end) nat_cmp_total)

abbrev pub key_eq : SpanKey → SpanKey → Bool
key_eq x y = nat_eq x.start y.start && nat_eq x.end y.end

key_ties : (x y : SpanKey) → key_eq x y ≡ eq_by_cmp key_cmp x y
key_ties x y = both_tied _ _ _ _ (unsigned_ties x.start y.start) (unsigned_ties x.end y.end)

key_equiv : IsEquivalence key_eq
key_equiv = and_equiv (on_equiv (λ t. t.start) nat_eq_equiv) (on_equiv (λ t. t.end) nat_eq_equiv)

both : (a b : Bool) → (a && b) ≡ true → (a ≡ true) × (b ≡ true)
both true b is = (refl, is)
both false b is = cc

key_exact : (x y : SpanKey) → key_eq x y ≡ true → x ≡ y
key_exact x y is =
    let parts = both _ _ is in
    let start = eqb-true x.start y.start parts.0 in
    let end = eqb-true x.end y.end parts.1 in
    λ i. record { start = start i; end = end i }

less_or : (a b c d : ℕ) → ordering_then (nat_cmp a b) (nat_cmp c d) ≡ Less → (a < b) ⊎ ((a ≡ b) × (c < d))
less_or a b c d is = by (nat_cmp a b) (nat_cmp c d) (ranked a b (nat_cmp a b) refl) (ranked c d (nat_cmp c d) refl) is
  where
    by : (r s : Ordering) → MatchOrdering r (a < b) (a ≡ b) (b < a) → MatchOrdering s (c < d) (c ≡ d) (d < c) → ordering_then r s ≡ Less →
        (a < b) ⊎ ((a ≡ b) × (c < d))
    by Less s below _ _ = inl below
    by Equal Less same below _ = inr (same, below)
    by Equal Equal same _ is = cc
    by Equal Greater same _ is = cc
    by Greater s _ _ is = cc

key_precedes : (x y : SpanKey) → key_cmp x y ≡ Less → SpanPrecedes (keyed_span x) (keyed_span y)
key_precedes x y is = elim (less_or x.start y.start x.end y.end is) [
  | inl below ↦ by_start below
  | inr both ↦ by_end both.0 both.1
]

module _ (found sorted : List SpanKey) (moved : IsPermutation found sorted) where
  pub same_spans : (s : Span) → Contains (map keyed_span (dedup key_eq sorted)) s ↔ Contains (map keyed_span found) s
  same_spans s = (to, from)
    where
      to : Contains (map keyed_span (dedup key_eq sorted)) s → Contains (map keyed_span found) s
      to has =
          let (i, at) = at_place_of (map keyed_span (dedup key_eq sorted)) s has in
          let (k, there, same) = mapped_from keyed_span (dedup key_eq sorted) i s at in
          subst (Contains (map keyed_span found)) same
          (among_mapped keyed_span found k
          (Contains-permutation sorted found k (IsPermutation-sym found sorted moved) (Contains-from_dedup key_eq sorted k (is_among (dedup key_eq sorted) i k there))))

      from : Contains (map keyed_span found) s → Contains (map keyed_span (dedup key_eq sorted)) s
      from has =
          let (i, at) = at_place_of (map keyed_span found) s has in
          let (k, there, same) = mapped_from keyed_span found i s at in
          subst (Contains (map keyed_span (dedup key_eq sorted))) same
          (among_mapped keyed_span (dedup key_eq sorted) k
          (Contains-dedup key_equiv key_exact sorted k (Contains-permutation found sorted k moved (is_among found i k there))))

  pub spans_ordered : IsSorted key_cmp sorted → AllPairs SpanPrecedes (map keyed_span (dedup key_eq sorted))
  spans_ordered up i j d below inside =
      let kept : List SpanKey = dedup key_eq sorted in
      let e : SpanKey = record { start = d.start; end = d.end } in
      let shorter : j < length kept = subst (λ n. j < n) (length-map kept keyed_span) inside in
      let less = Less-from_sorted key_cmp kept i j e (IsStrictlySortedBy-dedup key_total key_ties sorted up) below shorter in
      let P : Span → Type 0 = λ one. SpanPrecedes one (get_or (map keyed_span kept) j d) in
      let Q : Span → Type 0 = λ other. SpanPrecedes (keyed_span (get_or kept i e)) other in
      subst P (sym (get_or-map keyed_span kept i e)) (subst Q (sym (get_or-map keyed_span kept j e)) (key_precedes (get_or kept i e) (get_or kept j e) less))
