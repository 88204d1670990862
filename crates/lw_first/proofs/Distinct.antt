-- Heads that are told apart by `==` are distinct, and there are only so many.
use Rattle.std.proofs.Common.{◌≡◌, ℕ, ◌+◌, ◌*◌, ◌<◌, ◌≤◌, List, [], ◌∷◌, ◌++◌, Bool, true, false, ◌&&◌, ◌||◌, Some, ◌⊎◌, inl, inr, ◌↔◌, if◌then◌else◌, slice_get, length, map, refl, sym, ap, ap₂, ◌∙◌, subst, true≢false, eqb, eqb-true, arith}
use Rattle.std.specs.List.{AllByRecursion, IsDistinct, list_any}
use Rattle.std.proofs.lemmas.Bool.{eq-eqb}
use Rattle.std.proofs.lemmas.List.{length-map}
use Rattle.std.proofs.lemmas.Map.Keys.{apart_from_distinct, IsDistinct-head, IsDistinct-tail, IsDistinct-cons}
use Rattle.std.proofs.lemmas.Map.Steps.{length-le_from_distinct_below}
use Rattle.std.proofs.lemmas.Map.Views.{Contains-from_any}
use Rattle.std.proofs.lemmas.Option.{get_or_from_slice_get, slice_get_within}
use Rattle.indexmap.specs.IndexSet.{insert_key}
use Rattle.lw_base.specs.declared.numbers.KindId.{KindId}
use Rattle.lw_first.specs.declared.heads.head.Head.{Head}
use Rattle.lw_first.specs.declared.heads.head.Head.TheVariants.{Nothing, One, Two, Three}
use Rattle.lw_first.specs.contracts.heads.head.HeadPartialEq.TheImpl.{eq-value}
use Rattle.lw_first.specs.Heads.{kinds_in}
use Rattle.lw_first.specs.Sets.{AddsHeads, AreDistinctHeads, HasSmallKinds, IsAmongHeads, most_heads}
use Rattle.lw_first.proofs.HeadLemmas.{adds_known, among_joined, among_one}

-- ---- one head

abbrev kind : ℕ → KindId
kind n = record { 0 = n }

left : (a b : Bool) → (a && b) ≡ true → a ≡ true
left true b h = refl
left false b h = absurd (true≢false (sym h))

right : (a b : Bool) → (a && b) ≡ true → b ≡ true
right true b h = h
right false b h = absurd (true≢false (sym h))

both : (a b : Bool) → a ≡ true → b ≡ true → (a && b) ≡ true
both a b p q = ap₂ (λ x y. x && y) p q

same_kind : (a b : KindId) → eqb a.0 b.0 ≡ true → a ≡ b
same_kind a b h = ap kind (eqb-true a.0 b.0 h)

pub head_exact : (x y : Head) → (eq-value).it x y ≡ true → x ≡ y
head_exact Nothing Nothing h = refl
head_exact (One a) (One b) h = ap One (same_kind a b h)
head_exact (Two a b) (Two c d) h = ap₂ Two (same_kind a c (left (eqb a.0 c.0) (eqb b.0 d.0) h)) (same_kind b d (right (eqb a.0 c.0) (eqb b.0 d.0) h))
head_exact (Three a b c) (Three d e f) h =
    let one = left (eqb a.0 d.0) (eqb b.0 e.0 && eqb c.0 f.0) h in
    let others = right (eqb a.0 d.0) (eqb b.0 e.0 && eqb c.0 f.0) h in
    let first : a ≡ d = same_kind a d one in
    let second : b ≡ e = same_kind b e (left (eqb b.0 e.0) (eqb c.0 f.0) others) in
    let third : c ≡ f = same_kind c f (right (eqb b.0 e.0) (eqb c.0 f.0) others) in
    ap₂ (λ x y. Three x y c) first second ∙ ap (Three d e) third
head_exact _ _ h = absurd (true≢false (sym h))

pub head_same : (x : Head) → (eq-value).it x x ≡ true
head_same Nothing = refl
head_same (One a) = eq-eqb a.0 a.0 refl
head_same (Two a b) = both (eqb a.0 a.0) (eqb b.0 b.0) (eq-eqb a.0 a.0 refl) (eq-eqb b.0 b.0 refl)
head_same (Three a b c) =
    both (eqb a.0 a.0) (eqb b.0 b.0 && eqb c.0 c.0) (eq-eqb a.0 a.0 refl) (both (eqb b.0 b.0) (eqb c.0 c.0) (eq-eqb b.0 b.0 refl) (eq-eqb c.0 c.0 refl))

-- ---- distinct heads

-- no two places of distinct keys have one head
pub distinct_heads : (heads : List Head) → IsDistinct (eq-value).it heads → AreDistinctHeads heads
distinct_heads heads apart i j head at_i at_j = omega (arith, never i j at_i at_j, never j i at_j at_i)
  where
    never : (m n : ℕ) → slice_get heads m ≡ Some head → slice_get heads n ≡ Some head → m < n → ⊥
    never m n at_m at_n before =
        let is_false = apart_from_distinct (eq-value).it heads m n head apart before (slice_get_within heads n head at_n) in
        let is_same = ap₂ (eq-value).it (get_or_from_slice_get heads m head head at_m) (get_or_from_slice_get heads n head head at_n) in
        true≢false (sym (head_same head) ∙ sym is_same ∙ is_false)

-- an inserted head is added
pub adds_inserted : (heads : List Head) (head : Head) → AddsHeads (λ h. h ≡ kinds_in head) heads (insert_key (eq-value).it heads head)
adds_inserted heads head = by (list_any ((eq-value).it head) heads) refl
  where
    new : (h : List ℕ) → IsAmongHeads (heads ++ head ∷ []) h ↔ (IsAmongHeads heads h ⊎ (h ≡ kinds_in head))
    new h = (λ among. into ((among_joined heads (head ∷ []) h).0 among), λ either. (among_joined heads (head ∷ []) h).1 (from either))
      where
        into : IsAmongHeads heads h ⊎ IsAmongHeads (head ∷ []) h → IsAmongHeads heads h ⊎ (h ≡ kinds_in head)
        into (inl was) = inl was
        into (inr one) = inr ((among_one head h).0 one)

        from : IsAmongHeads heads h ⊎ (h ≡ kinds_in head) → IsAmongHeads heads h ⊎ IsAmongHeads (head ∷ []) h
        from (inl was) = inl was
        from (inr is) = inr ((among_one head h).1 is)

    by : (b : Bool) → list_any ((eq-value).it head) heads ≡ b → AddsHeads (λ h. h ≡ kinds_in head) heads (if b then heads else heads ++ head ∷ [])
    by true has = adds_known heads (λ h is. (head, Contains-from_any head_exact head heads has, sym is))
    by false none = new

-- ---- how many there are

pub small_inserted : (heads : List Head) (head : Head) → AllByRecursion HasSmallKinds heads → HasSmallKinds head → AllByRecursion HasSmallKinds (insert_key (eq-value).it heads head)
small_inserted heads head small is = by (list_any ((eq-value).it head) heads)
  where
    push : (heads : List Head) → AllByRecursion HasSmallKinds heads → AllByRecursion HasSmallKinds (heads ++ head ∷ [])
    push [] small = (is, tt)
    push (x ∷ heads) small = (small.0, push heads small.1)

    by : (b : Bool) → AllByRecursion HasSmallKinds (if b then heads else heads ++ head ∷ [])
    by true = small
    by false = push heads small

-- a number for each head
abbrev code : List ℕ → ℕ
code [] = 0
code (n ∷ ns) = 1 + n + 65536 * code ns

one_digit : (m n x y : ℕ) → m < 65536 → n < 65536 → 1 + m + 65536 * x ≡ 1 + n + 65536 * y → (m ≡ n) × (x ≡ y)
one_digit m n x y small also same = (omega arith, omega arith)

same_code : (ms ns : List ℕ) → AllByRecursion (λ n. n < 65536) ms → AllByRecursion (λ n. n < 65536) ns → code ms ≡ code ns → ms ≡ ns
same_code [] [] small also same = refl
same_code [] (n ∷ ns) small also same = absurd (omega arith)
same_code (m ∷ ms) [] small also same = absurd (omega arith)
same_code (m ∷ ms) (n ∷ ns) small also same =
    let digit = one_digit m n (code ms) (code ns) small.0 also.0 same in
    ap₂ (λ k ks. k ∷ ks) digit.0 (same_code ms ns small.1 also.1 digit.1)

pub same_kinds : (x y : Head) → kinds_in x ≡ kinds_in y → x ≡ y
same_kinds Nothing Nothing h = refl
same_kinds (One a) (One b) h = ap One (ap kind cc)
same_kinds (Two a b) (Two c d) h = ap₂ Two (ap kind cc) (ap kind cc)
same_kinds (Three a b c) (Three d e f) h =
    let first : a ≡ d = ap kind cc in
    let second : b ≡ e = ap kind cc in
    let third : c ≡ f = ap kind cc in
    ap₂ (λ x y. Three x y c) first second ∙ ap (Three d e) third
same_kinds _ _ h = cc

abbrev number : Head → ℕ
number head = code (kinds_in head)

few_numbers : (head : Head) → HasSmallKinds head → number head < most_heads
few_numbers Nothing small = omega arith
few_numbers (One a) small = let one = small.0 in omega arith
few_numbers (Two a b) small = let one = small.0 in let two = small.1.0 in omega arith
few_numbers (Three a b c) small = let one = small.0 in let two = small.1.0 in let three = small.1.1.0 in omega arith

numbers_apart : (heads : List Head) → IsDistinct (eq-value).it heads → AllByRecursion HasSmallKinds heads → IsDistinct eqb (map number heads)
unfolding IsDistinct
numbers_apart [] apart small = tt
numbers_apart (x ∷ heads) apart small =
    IsDistinct-cons eqb (number x) (map number heads) (all heads small.1 (IsDistinct-head (eq-value).it x heads apart))
    (numbers_apart heads (IsDistinct-tail (eq-value).it x heads apart) small.1)
  where
    other : (y : Head) → HasSmallKinds y → (eq-value).it x y ≡ false → (b : Bool) → eqb (number x) (number y) ≡ b → b ≡ false
    other y also differs false is = refl
    other y also differs true is =
        let same : x ≡ y = same_kinds x y (same_code (kinds_in x) (kinds_in y) small.0 also (eqb-true (number x) (number y) is)) in
        absurd (true≢false (sym (head_same x) ∙ ap ((eq-value).it x) same ∙ differs))

    all : (ys : List Head) → AllByRecursion HasSmallKinds ys → AllByRecursion (λ y. (eq-value).it x y ≡ false) ys → AllByRecursion (λ n. eqb (number x) n ≡ false) (map number ys)
    all [] also differ = tt
    all (y ∷ ys) also differ = (other y also.0 differ.0 (eqb (number x) (number y)) refl, all ys also.1 differ.1)

numbers_below : (heads : List Head) → AllByRecursion HasSmallKinds heads → (n : ℕ) → list_any (eqb n) (map number heads) ≡ true → n < most_heads
numbers_below [] small n has = absurd (true≢false (sym has))
numbers_below (x ∷ heads) small n has = by (eqb n (number x)) refl has (numbers_below heads small.1 n)
  where
    by : (b : Bool) → eqb n (number x) ≡ b → (b || list_any (eqb n) (map number heads)) ≡ true → (list_any (eqb n) (map number heads) ≡ true → n < most_heads) → n < most_heads
    by true is has others = subst (λ k. k < most_heads) (sym (eqb-true n (number x) is)) (few_numbers x small.0)
    by false is has others = others has

pub few_heads : (heads : List Head) → IsDistinct (eq-value).it heads → AllByRecursion HasSmallKinds heads → length heads ≤ most_heads
few_heads heads apart small =
    subst (λ n. n ≤ most_heads) (length-map heads number) (length-le_from_distinct_below (map number heads) most_heads (numbers_apart heads apart small) (numbers_below heads small))
