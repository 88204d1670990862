-- The order in which the list of faults is sorted is that of faults, and nothing is lost when doubles are taken out.
use Rattle.std.proofs.Common.{◌≡◌, ℕ, ◌<◌, List, Bool, true, false, ◌&&◌, Contains, AllPairs, Ordering, map, length, get_or, nat_eq, bytes_eq, refl, sym, ap, ap₂, ◌∙◌, subst}
use Rattle.std.specs.List.{dedup}
use Rattle.std.specs.List.Sorted.{IsSorted, IsPermutation}
use Rattle.std.specs.Ordering.{nat_cmp, ordering_then, eq_by_cmp, MatchOrdering}
use Rattle.std.specs.declared.cmp.Ordering.TheVariants.{Less, Equal, Greater}
use Rattle.std.specs.Cmp.{IsTotalOrder, IsEquivalence, both_tied, unsigned_ties}
use Rattle.std.specs.Cmp.Lexicographic.{slice_cmp, texts_ties}
use Rattle.std.proofs.lemmas.Cmp.{ranked, then_total, on_total, nat_cmp_total, nat_list_cmp_total, nat_list_eq_equiv, nat_eq_equiv, and_equiv, on_equiv}
use Rattle.std.proofs.Math.ListN.{get_or-map}
use Rattle.std.proofs.lemmas.List.{length-map}
use Rattle.std.proofs.lemmas.Bool.{eqb-true}
use Rattle.std.proofs.lemmas.Slice.Eq.{bytes_eq-Decides}
use Rattle.std.proofs.lemmas.List.Kept.{Contains-dedup, Contains-from_dedup, IsStrictlySortedBy-dedup}
use Rattle.std.proofs.lemmas.List.Sorted.{Contains-permutation, IsPermutation-sym}
use Rattle.std.proofs.lemmas.Map.Keys.{Less-from_sorted}
use Rattle.lw_grammar.specs.declared.fault.GrammarFault.{GrammarFault}
use Rattle.lw_faults.specs.Faults.{ComesBefore, by_file, by_start, by_number, by_end, by_name, AreFaults}
use Rattle.lw_faults.specs.declared.findings.told.Told.{Told}
use Rattle.lw_faults.specs.Telling.{told_fault}

-- ---- the order

abbrev pub told_cmp : Told → Told → Ordering
told_cmp x y =
    ordering_then (nat_cmp x.file y.file)
    (ordering_then (nat_cmp x.start y.start)
    (ordering_then (nat_cmp x.number y.number) (ordering_then (nat_cmp x.end y.end) (slice_cmp nat_cmp x.name y.name))))

told_total : IsTotalOrder told_cmp
told_total =
    then_total (on_total (λ t. t.file) nat_cmp_total)
    (then_total (on_total (λ t. t.start) nat_cmp_total)
    (then_total (on_total (λ t. t.number) nat_cmp_total) (then_total (on_total (λ t. t.end) nat_cmp_total) (on_total (λ t. t.name) nat_list_cmp_total))))

-- by one part and then by the rest
module _ {G : Type 0} (a b : ℕ) (rest : Ordering) where
  first_or : ordering_then (nat_cmp a b) rest ≡ Less → (a < b → G) → (a ≡ b → rest ≡ Less → G) → G
  first_or is below same = by (nat_cmp a b) (ranked a b (nat_cmp a b) refl) is
    where
      by : (r : Ordering) → MatchOrdering r (a < b) (a ≡ b) (b < a) → ordering_then r rest ≡ Less → G
      by Less less _ = below less
      by Equal tied is = same tied is
      by Greater above is = cc

ComesBefore-told : (x y : Told) → told_cmp x y ≡ Less → ComesBefore (told_fault x) (told_fault y)
ComesBefore-told x y is =
    first_or x.file y.file _ is by_file
    (λ file is. first_or x.start y.start _ is (by_start file)
    (λ start is. first_or x.number y.number _ is (by_number file start)
    (λ number is. first_or x.end y.end _ is (by_end file start number)
    (λ end is. by_name file (ap₂ (λ a b. record { start = a; end = b }) start end) number is))))

-- ---- equality

abbrev pub told_eq : Told → Told → Bool
told_eq x y = nat_eq x.file y.file && (nat_eq x.start y.start && (nat_eq x.number y.number && (nat_eq x.end y.end && bytes_eq x.name y.name)))

told_ties : (x y : Told) → told_eq x y ≡ eq_by_cmp told_cmp x y
told_ties x y =
    both_tied _ _ _ _ (unsigned_ties x.file y.file)
    (both_tied _ _ _ _ (unsigned_ties x.start y.start)
    (both_tied _ _ _ _ (unsigned_ties x.number y.number) (both_tied _ _ _ _ (unsigned_ties x.end y.end) (texts_ties x.name y.name))))

told_equiv : IsEquivalence told_eq
told_equiv =
    and_equiv (on_equiv (λ t. t.file) nat_eq_equiv)
    (and_equiv (on_equiv (λ t. t.start) nat_eq_equiv)
    (and_equiv (on_equiv (λ t. t.number) nat_eq_equiv) (and_equiv (on_equiv (λ t. t.end) nat_eq_equiv) (on_equiv (λ t. t.name) nat_list_eq_equiv))))

both : (a b : Bool) → (a && b) ≡ true → (a ≡ true) × (b ≡ true)
both true b is = (refl, is)
both false b is = cc

told_parts : {a b c d p q r s : ℕ} {m n : List ℕ} → a ≡ p → b ≡ q → c ≡ r → d ≡ s → m ≡ n →
    let one : Told = record { file = a; start = b; number = c; end = d; name = m } in one ≡ record { file = p; start = q; number = r; end = s; name = n }
told_parts file start number end name = cc

told_exact : (x y : Told) → told_eq x y ≡ true → x ≡ y
told_exact x y is =
    let file = both _ _ is in
    let start = both _ _ file.1 in
    let number = both _ _ start.1 in
    let end = both _ _ number.1 in
    told_parts (eqb-true x.file y.file file.0) (eqb-true x.start y.start start.0) (eqb-true x.number y.number number.0) (eqb-true x.end y.end end.0)
    ((bytes_eq-Decides x.name y.name).0 end.1)

-- ---- faults and what tells them

told_of : GrammarFault → Told
told_of f = record { file = f.file; start = f.span.start; number = f.number; end = f.span.end; name = f.name }

told_at : (xs : List Told) (k : ℕ) (f : GrammarFault) → get_or (map told_fault xs) k f ≡ told_fault (get_or xs k (told_of f))
unfolding told_of
told_at xs k f = get_or-map told_fault xs k (told_of f)

of_fault : (xs : List Told) (f : GrammarFault) → Contains (map told_fault xs) f → Contains xs (told_of f)
unfolding told_of
of_fault xs f (k, inside, is) = (k, subst (λ n. k < n) (length-map xs told_fault) inside, ap told_of (sym (told_at xs k f) ∙ is))

to_fault : (xs : List Told) (f : GrammarFault) → Contains xs (told_of f) → Contains (map told_fault xs) f
unfolding told_of
to_fault xs f (k, inside, is) = (k, subst (λ n. k < n) (sym (length-map xs told_fault)) inside, told_at xs k f ∙ ap told_fault is)

-- ---- the list

module _ (found sorted : List Told) (moved : IsPermutation found sorted) where
  pub AreFaults-listed : IsSorted told_cmp sorted → AreFaults (Contains (map told_fault found)) (map told_fault (dedup told_eq sorted))
  AreFaults-listed up = record { all = λ f. (to f, from f); sorted = in_order }
    where
      to : (f : GrammarFault) → Contains (map told_fault (dedup told_eq sorted)) f → Contains (map told_fault found) f
      to f has =
          to_fault found f
          (Contains-permutation sorted found (told_of f) (IsPermutation-sym found sorted moved)
          (Contains-from_dedup told_eq sorted (told_of f) (of_fault (dedup told_eq sorted) f has)))

      from : (f : GrammarFault) → Contains (map told_fault found) f → Contains (map told_fault (dedup told_eq sorted)) f
      from f has =
          to_fault (dedup told_eq sorted) f
          (Contains-dedup told_equiv told_exact sorted (told_of f) (Contains-permutation found sorted (told_of f) moved (of_fault found f has)))

      in_order : AllPairs ComesBefore (map told_fault (dedup told_eq sorted))
      in_order i j d below inside =
          let kept : List Told = dedup told_eq sorted in
          let shorter : j < length kept = subst (λ n. j < n) (length-map kept told_fault) inside in
          let less = Less-from_sorted told_cmp kept i j (told_of d) (IsStrictlySortedBy-dedup told_total told_ties sorted up) below shorter in
          let P : GrammarFault → Type 0 = λ one. ComesBefore one (get_or (map told_fault kept) j d) in
          let Q : GrammarFault → Type 0 = λ other. ComesBefore (told_fault (get_or kept i (told_of d))) other in
          subst P (sym (told_at kept i d)) (subst Q (sym (told_at kept j d)) (ComesBefore-told (get_or kept i (told_of d)) (get_or kept j (told_of d)) less))
