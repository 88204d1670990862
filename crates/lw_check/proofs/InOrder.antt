-- The order in which diagnostics are sorted is theirs, and nothing is lost when doubles are taken out.
use Rattle.std.proofs.Common.{◌≡◌, ◌↔◌, ℕ, ◌<◌, List, Bool, true, false, ◌&&◌, Contains, AllPairs, Ordering, length, get_or, nat_eq, bytes_eq, refl, sym, ap, ap₂, ◌∙◌, subst}
use Rattle.std.specs.List.{dedup}
use Rattle.std.specs.List.Sorted.{IsSorted, IsPermutation}
use Rattle.std.specs.Ordering.{nat_cmp, ordering_then, eq_by_cmp, MatchOrdering}
use Rattle.std.specs.declared.cmp.Ordering.TheVariants.{Less, Equal, Greater}
use Rattle.std.specs.Cmp.{IsTotalOrder, IsEquivalence, both_tied, unsigned_ties}
use Rattle.std.specs.Cmp.Lexicographic.{slice_cmp, texts_ties}
use Rattle.std.proofs.lemmas.Cmp.{ranked, then_total, on_total, nat_cmp_total, nat_list_cmp_total, nat_list_eq_equiv, nat_eq_equiv, and_equiv, on_equiv}
use Rattle.std.proofs.Math.ListN.{get_or-map}
use Rattle.std.proofs.lemmas.List.{length-map}
use Rattle.std.proofs.lemmas.Bool.{eqb-true}
use Rattle.std.proofs.lemmas.Slice.Eq.{bytes_eq-Decides}
use Rattle.std.proofs.lemmas.List.Kept.{Contains-dedup, Contains-from_dedup, IsStrictlySortedBy-dedup}
use Rattle.std.proofs.lemmas.List.Sorted.{Contains-permutation, IsPermutation-sym}
use Rattle.std.proofs.lemmas.Map.Keys.{Less-from_sorted}
use Rattle.lw_link_rules.specs.TreeDiagnostics.{Diagnostic, DiagnosticPrecedes, by_start, by_code, by_end, by_message}
use Rattle.lw_check.specs.declared.sorting.KeyedDiagnostic.{KeyedDiagnostic}
use Rattle.lw_check.specs.Sorting.{diagnostic_of, diagnostics_of}

-- ---- the order

abbrev pub keyed_cmp : KeyedDiagnostic → KeyedDiagnostic → Ordering
keyed_cmp x y = ordering_then (nat_cmp x.start y.start) (ordering_then (nat_cmp x.code y.code) (ordering_then (nat_cmp x.end y.end) (slice_cmp nat_cmp x.message y.message)))

keyed_total : IsTotalOrder keyed_cmp
keyed_total =
    then_total (on_total (λ d. d.start) nat_cmp_total)
    (then_total (on_total (λ d. d.code) nat_cmp_total) (then_total (on_total (λ d. d.end) nat_cmp_total) (on_total (λ d. d.message) nat_list_cmp_total)))

-- by one part and then by the rest
module _ {G : Type 0} (a b : ℕ) (rest : Ordering) where
  first_or : ordering_then (nat_cmp a b) rest ≡ Less → (a < b → G) → (a ≡ b → rest ≡ Less → G) → G
  first_or is below same = by (nat_cmp a b) (ranked a b (nat_cmp a b) refl) is
    where
      by : (r : Ordering) → MatchOrdering r (a < b) (a ≡ b) (b < a) → ordering_then r rest ≡ Less → G
      by Less less _ = below less
      by Equal tied is = same tied is
      by Greater above is = cc

precedes : (x y : KeyedDiagnostic) → keyed_cmp x y ≡ Less → DiagnosticPrecedes (diagnostic_of x) (diagnostic_of y)
precedes x y is =
    first_or x.start y.start _ is by_start
    (λ start is. first_or x.code y.code _ is (by_code start)
    (λ code is. first_or x.end y.end _ is (by_end start code)
    (λ end is. by_message (ap₂ (λ a b. record { start = a; end = b }) start end) code is)))

-- ---- equality

abbrev pub keyed_eq : KeyedDiagnostic → KeyedDiagnostic → Bool
keyed_eq x y = nat_eq x.start y.start && (nat_eq x.code y.code && (nat_eq x.end y.end && bytes_eq x.message y.message))

keyed_ties : (x y : KeyedDiagnostic) → keyed_eq x y ≡ eq_by_cmp keyed_cmp x y
keyed_ties x y =
    both_tied _ _ _ _ (unsigned_ties x.start y.start)
    (both_tied _ _ _ _ (unsigned_ties x.code y.code) (both_tied _ _ _ _ (unsigned_ties x.end y.end) (texts_ties x.message y.message)))

keyed_equiv : IsEquivalence keyed_eq
keyed_equiv =
    and_equiv (on_equiv (λ d. d.start) nat_eq_equiv)
    (and_equiv (on_equiv (λ d. d.code) nat_eq_equiv) (and_equiv (on_equiv (λ d. d.end) nat_eq_equiv) (on_equiv (λ d. d.message) nat_list_eq_equiv)))

both : (a b : Bool) → (a && b) ≡ true → (a ≡ true) × (b ≡ true)
both true b is = (refl, is)
both false b is = cc

keyed_parts : {a b c p q r : ℕ} {m n : List ℕ} → a ≡ p → b ≡ q → c ≡ r → m ≡ n →
    let one : KeyedDiagnostic = record { start = a; code = b; end = c; message = m } in one ≡ record { start = p; code = q; end = r; message = n }
keyed_parts start code end message = cc

keyed_exact : (x y : KeyedDiagnostic) → keyed_eq x y ≡ true → x ≡ y
keyed_exact x y is =
    let start = both _ _ is in
    let code = both _ _ start.1 in
    let end = both _ _ code.1 in
    keyed_parts (eqb-true x.start y.start start.0) (eqb-true x.code y.code code.0) (eqb-true x.end y.end end.0) ((bytes_eq-Decides x.message y.message).0 end.1)

-- ---- diagnostics and what keeps them

keyed_of : Diagnostic → KeyedDiagnostic
keyed_of d = record { start = d.span.start; code = d.code; end = d.span.end; message = d.message }

kept_at : (xs : List KeyedDiagnostic) (k : ℕ) (d : Diagnostic) → get_or (diagnostics_of xs) k d ≡ diagnostic_of (get_or xs k (keyed_of d))
unfolding keyed_of
kept_at xs k d = get_or-map diagnostic_of xs k (keyed_of d)

of_diagnostic : (xs : List KeyedDiagnostic) (d : Diagnostic) → Contains (diagnostics_of xs) d → Contains xs (keyed_of d)
unfolding keyed_of
of_diagnostic xs d (k, inside, is) = (k, subst (λ n. k < n) (length-map xs diagnostic_of) inside, ap keyed_of (sym (kept_at xs k d) ∙ is))

to_diagnostic : (xs : List KeyedDiagnostic) (d : Diagnostic) → Contains xs (keyed_of d) → Contains (diagnostics_of xs) d
unfolding keyed_of
to_diagnostic xs d (k, inside, is) = (k, subst (λ n. k < n) (sym (length-map xs diagnostic_of)) inside, kept_at xs k d ∙ ap diagnostic_of is)

-- ---- the list

module _ (found sorted : List KeyedDiagnostic) (moved : IsPermutation found sorted) where
  pub kept : (d : Diagnostic) → Contains (diagnostics_of (dedup keyed_eq sorted)) d ↔ Contains (diagnostics_of found) d
  kept d = (to, from)
    where
      to : Contains (diagnostics_of (dedup keyed_eq sorted)) d → Contains (diagnostics_of found) d
      to has =
          to_diagnostic found d
          (Contains-permutation sorted found (keyed_of d) (IsPermutation-sym found sorted moved)
          (Contains-from_dedup keyed_eq sorted (keyed_of d) (of_diagnostic (dedup keyed_eq sorted) d has)))

      from : Contains (diagnostics_of found) d → Contains (diagnostics_of (dedup keyed_eq sorted)) d
      from has =
          to_diagnostic (dedup keyed_eq sorted) d
          (Contains-dedup keyed_equiv keyed_exact sorted (keyed_of d) (Contains-permutation found sorted (keyed_of d) moved (of_diagnostic found d has)))

  pub in_order : IsSorted keyed_cmp sorted → AllPairs DiagnosticPrecedes (diagnostics_of (dedup keyed_eq sorted))
  in_order up i j d below inside =
      let left : List KeyedDiagnostic = dedup keyed_eq sorted in
      let shorter : j < length left = subst (λ n. j < n) (length-map left diagnostic_of) inside in
      let less = Less-from_sorted keyed_cmp left i j (keyed_of d) (IsStrictlySortedBy-dedup keyed_total keyed_ties sorted up) below shorter in
      let P : Diagnostic → Type 0 = λ one. DiagnosticPrecedes one (get_or (diagnostics_of left) j d) in
      let Q : Diagnostic → Type 0 = λ other. DiagnosticPrecedes (diagnostic_of (get_or left i (keyed_of d))) other in
      subst P (sym (kept_at left i d)) (subst Q (sym (kept_at left j d)) (precedes (get_or left i (keyed_of d)) (get_or left j (keyed_of d)) less))
