-- The heads of ways, each beside its way: which there are, how many, and how they are put one behind the other.
use Rattle.std.proofs.Common.{◌≡◌, ℕ, zero, suc, ◌+◌, ◌<◌, List, [], ◌∷◌, ◌++◌, Some, Contains, ◌⊎◌, inl, inr, ◌↔◌, length, take, get_or, slice_get, refl, sym, ap, ap₂, ◌∙◌, subst, append_assoc, append-nil, length-append, arith}
use Rattle.std.specs.List.{sum_by}
use Rattle.std.proofs.lemmas.List.{length-map, length-take, length-take-le, take_more}
use Rattle.std.proofs.lemmas.List.Sums.{sum_by-cons}
use Rattle.std.proofs.lemmas.Option.{slice_get_within}
use Rattle.std.proofs.lemmas.List.Elements.{Contains-append_cases, Contains-append_left, Contains-append_right}
use Rattle.lw_first.specs.declared.heads.head.Head.{Head}
use Rattle.lw_base.proofs.Lists.{at_map, at_of, has_at, map_has}
use Rattle.lw_lookahead.specs.Entries.{AreUpTo, of_way, of_ways}

abbrev Pair : Type 0
Pair = Head × ℕ

-- ---- one way

abbrev beside : ℕ → Head → Pair
beside way head = (head, way)

-- a head beside the way is one of the way's
pub of_way_has : (way : ℕ) (heads : List Head) (h : Head) (w : ℕ) → Contains (of_way way heads) (h, w) ↔ (Contains heads h × (w ≡ way))
of_way_has way heads h w = (from, λ both. to both.0 both.1)
  where
    from : Contains (of_way way heads) (h, w) → Contains heads h × (w ≡ way)
    from has =
        let (i, x, at, is) = at_map (beside way) heads (h, w) has in
        let same : x ≡ h = ap (λ (p : Pair). p.0) is in
        (subst (Contains heads) same (has_at heads i x at), sym (ap (λ (p : Pair). p.1) is))

    to : Contains heads h → w ≡ way → Contains (of_way way heads) (h, w)
    to has is = let (i, at) = at_of heads h has in subst (λ n. Contains (of_way way heads) (h, n)) (sym is) (map_has (beside way) heads i h at)

pub of_way-more : (way : ℕ) (heads : List Head) (i : ℕ) (d : Head) → i < length heads →
    of_way way (take (i + 1) heads) ≡ of_way way (take i heads) ++ (get_or heads i d, way) ∷ []
of_way-more way heads i d inside = ap (of_way way) (take_more heads i d inside) ∙ joined (take i heads) (get_or heads i d)
  where
    joined : (xs : List Head) (x : Head) → of_way way (xs ++ x ∷ []) ≡ of_way way xs ++ (x, way) ∷ []
    joined [] x = refl
    joined (y ∷ xs) x = ap (λ ps. (y, way) ∷ ps) (joined xs x)

-- ---- ways

-- the head is one of the way's that stands at this place
abbrev pub IsHeadAt : ℕ → List (List Head) → Head → ℕ → Type 0
IsHeadAt n ways h w = (i : ℕ) × (heads : List Head) × (w ≡ n + i) × (slice_get ways i ≡ Some heads) × Contains heads h

pub of_ways_has : (n : ℕ) (ways : List (List Head)) (h : Head) (w : ℕ) → Contains (of_ways n ways) (h, w) ↔ IsHeadAt n ways h w
of_ways_has n ways h w = (from n ways, λ at. to n ways at.0 at.1 at.2 at.3 at.4)
  where
    from : (n : ℕ) (ways : List (List Head)) → Contains (of_ways n ways) (h, w) → IsHeadAt n ways h w
    from n [] has = absurd (omega (arith, has.1))
    from n (heads ∷ ways) has = by (Contains-append_cases (of_way n heads) (of_ways (n + 1) ways) (h, w) has) (from (n + 1) ways)
      where
        by : Contains (of_way n heads) (h, w) ⊎ Contains (of_ways (n + 1) ways) (h, w) → (Contains (of_ways (n + 1) ways) (h, w) → IsHeadAt (n + 1) ways h w) →
            IsHeadAt n (heads ∷ ways) h w
        by (inl here) rest = let (own, is) = (of_way_has n heads h w).0 here in (zero, heads, omega arith, refl, own)
        by (inr later) rest = let (i, own, is, at, has) = rest later in (suc i, own, omega arith, at, has)

    to : (n : ℕ) (ways : List (List Head)) (i : ℕ) (heads : List Head) → w ≡ n + i → slice_get ways i ≡ Some heads → Contains heads h → Contains (of_ways n ways) (h, w)
    to n [] i heads is at has = cc
    to n (own ∷ ways) zero heads is at has =
        let same : own ≡ heads = cc in
        Contains-append_left (of_way n own) (of_ways (n + 1) ways) (h, w) ((of_way_has n own h w).1 (subst (λ x. Contains x h) (sym same) has, omega arith))
    to n (own ∷ ways) (suc i) heads is at has =
        Contains-append_right (of_way n own) (of_ways (n + 1) ways) (h, w) (to (n + 1) ways i heads (omega arith) at has)

of_ways-push : (n : ℕ) (ways : List (List Head)) (heads : List Head) → of_ways n (ways ++ heads ∷ []) ≡ of_ways n ways ++ of_way (n + length ways) heads
of_ways-push n [] heads = append-nil (of_way n heads) ∙ ap (λ w. of_way w heads) (omega arith)
of_ways-push n (own ∷ ways) heads =
    let next : n + 1 + length ways ≡ n + suc (length ways) = omega arith in
    ap (λ ps. of_way n own ++ ps) (of_ways-push (n + 1) ways heads)
    ∙ sym (append_assoc (of_way n own) (of_ways (n + 1) ways) (of_way (n + 1 + length ways) heads))
    ∙ ap (λ w. of_way n own ++ of_ways (n + 1) ways ++ of_way w heads) next

pub of_ways-more : (n : ℕ) (ways : List (List Head)) (i way : ℕ) (d : List Head) → i < length ways → way ≡ n + i →
    of_ways n (take (i + 1) ways) ≡ of_ways n (take i ways) ++ of_way way (get_or ways i d)
of_ways-more n ways i way d inside is =
    let here : n + length (take i ways) ≡ way = omega (arith, length-take-le i ways (omega arith)) in
    ap (of_ways n) (take_more ways i d inside) ∙ of_ways-push n (take i ways) (get_or ways i d)
    ∙ ap (λ w. of_ways n (take i ways) ++ of_way w (get_or ways i d)) here

-- those of the first ways are not of later ones
pub first_up_to : (n : ℕ) (ways : List (List Head)) (i way : ℕ) → way ≡ n + i → AreUpTo way (of_ways n (take i ways))
first_up_to n ways i way last h w has =
    let (place, heads, is, at, own) = (of_ways_has n (take i ways) h w).0 has in
    omega (arith, slice_get_within (take i ways) place heads at, length-take i ways)

pub length-of_ways : (n : ℕ) (ways : List (List Head)) → length (of_ways n ways) ≡ sum_by length ways
length-of_ways n [] = refl
length-of_ways n (heads ∷ ways) =
    length-append (of_way n heads) (of_ways (n + 1) ways) ∙ ap₂ (λ a b. a + b) (length-map heads (beside n)) (length-of_ways (n + 1) ways) ∙ sym (sum_by-cons length heads ways)
