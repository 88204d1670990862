-- Windows place by place: what is seen at a place, and what is seen behind the first.
use Rattle.std.proofs.Common.{◌≡◌, ◌≢◌, ℕ, zero, suc, ◌+◌, ◌-◌, ◌<◌, ◌≤◌, List, [], ◌∷◌, ◌++◌, Option, None, Some, MatchOption, map, take, drop, get_or, replicate, length, slice_get, refl, sym, ap, ap₂, ◌∙◌, subst, arith}
use Rattle.std.specs.Option.{option_map}
use Rattle.std.proofs.lemmas.List.{take_all}
use Rattle.lw_base.specs.declared.numbers.KindId.{KindId}
use Rattle.lw_look.specs.Looks.{window}
use Rattle.lw_look.proofs.HeadsCover.{one_head}
use Rattle.lw_first.specs.declared.heads.head.Head.{Head}
use Rattle.lw_first.specs.Heads.{kinds_in, put_before, seen_in}

-- one more place
pub window_more : (i : ℕ) (ks : List ℕ) → window (i + 1) ks ≡ window i ks ++ slice_get ks i ∷ []
window_more i ks = let e : suc i ≡ i + 1 = omega arith in subst (λ n. window n ks ≡ window i ks ++ slice_get ks i ∷ []) e (by i i (suc i) ks (omega arith) (omega arith))
  where
    by : (i m n : ℕ) (ks : List ℕ) → i ≤ m → i < n → take (suc i) (map Some ks ++ replicate n None) ≡ take i (map Some ks ++ replicate m None) ++ slice_get ks i ∷ []
    by i m zero ks within inside = absurd (omega arith)
    by zero m (suc n) [] within inside = refl
    by zero m (suc n) (x ∷ ks) within inside = refl
    by (suc i) zero (suc n) ks within inside = absurd (omega arith)
    by (suc i) (suc m) (suc n) [] within inside = ap (λ ws. None ∷ ws) (by i m n [] (omega arith) (omega arith))
    by (suc i) (suc m) (suc n) (x ∷ ks) within inside = ap (λ ws. Some x ∷ ws) (by i (suc m) (suc n) ks (omega arith) (omega arith))

ends_enough : (i m n : ℕ) (ks : List ℕ) → i ≤ m → i ≤ n → take i (map Some ks ++ replicate m None) ≡ take i (map Some ks ++ replicate n None)
ends_enough zero m n ks within also = refl
ends_enough (suc i) zero n ks within also = absurd (omega arith)
ends_enough (suc i) (suc m) zero ks within also = absurd (omega arith)
ends_enough (suc i) (suc m) (suc n) [] within also = ap (λ ws. None ∷ ws) (ends_enough i m n [] (omega arith) (omega arith))
ends_enough (suc i) (suc m) (suc n) (x ∷ ks) within also = ap (λ ws. Some x ∷ ws) (ends_enough i (suc m) (suc n) ks (omega arith) (omega arith))

window_first : (n x : ℕ) (ks : List ℕ) → window (suc n) (x ∷ ks) ≡ Some x ∷ window n ks
window_first n x ks = ap (λ ws. Some x ∷ ws) (ends_enough n (suc n) n ks (omega arith) (omega arith))

behind : {x y : Option ℕ} {xs ys : List (Option ℕ)} → x ∷ xs ≡ y ∷ ys → xs ≡ ys
behind same = cc

module _ (k n : ℕ) (next : Option ℕ) (w : List (Option ℕ)) (is : k ≡ suc n) where
  -- what is seen behind the first place is no window
  pub window_behind : ((h : List ℕ) → length h ≤ 3 → w ≢ window n h) → (h : List ℕ) → length h ≤ 3 → next ∷ w ≢ window k h
  window_behind none h few same = by h few (same ∙ ap (λ k. window k h) is)
    where
      by : (h : List ℕ) → length h ≤ 3 → next ∷ w ≢ window (suc n) h
      by [] few same = none [] few (behind same)
      by (x ∷ h) few same = none h (omega arith) (behind (same ∙ window_first n x h))

  -- a kind or an end mark before a window
  pub window_put : (ks front : List ℕ) → put_before next ks ≡ Some front → length ks ≤ n → w ≡ window n ks → (next ∷ w ≡ window k front) × (length front ≤ k)
  window_put ks front put few same = by next ks front put few same
    where
      by : (next : Option ℕ) (ks front : List ℕ) → put_before next ks ≡ Some front → length ks ≤ n → w ≡ window n ks → (next ∷ w ≡ window k front) × (length front ≤ k)
      by (Some x) ks front put few same =
          let these : x ∷ ks ≡ front = cc in (
            ap (λ ws. Some x ∷ ws) same ∙ sym (window_first n x ks) ∙ ap₂ window (sym is) these,
            subst (λ h. length h ≤ k) these (omega arith),
          )
      by None [] front put few same =
          let these : [] ≡ front = cc in
          (ap (λ ws. None ∷ ws) same ∙ ap₂ window (sym is) these, subst (λ h. length h ≤ k) these (omega arith))
      by None (x ∷ ks) front put few same = cc

  -- an end mark before a kind
  pub window_never : (ks : List ℕ) → put_before next ks ≡ None → length ks ≤ n → w ≡ window n ks → (h : List ℕ) → next ∷ w ≢ window k h
  window_never ks put few same h also = by next ks put few same h (also ∙ ap (λ k. window k h) is)
    where
      ended : {x : ℕ} {xs ys : List (Option ℕ)} → None ∷ xs ≡ Some x ∷ ys → ⊥
      ended same = cc

      some_first : (m x : ℕ) (ks : List ℕ) → suc (length ks) ≤ m → take m [] ≢ take m (x ∷ ks)
      some_first zero x ks few same = omega arith
      some_first (suc m) x ks few same = cc

      by : (next : Option ℕ) (ks : List ℕ) → put_before next ks ≡ None → length ks ≤ n → w ≡ window n ks → (h : List ℕ) → next ∷ w ≢ window (suc n) h
      by (Some x) ks put few same h also = cc
      by None [] put few same h also = cc
      by None (x ∷ ks) put few same (y ∷ h) also = ended (also ∙ window_first n y h)
      by None (x ∷ ks) put few same [] also = some_first n x ks few (one_head n [] (x ∷ ks) (sym (behind also) ∙ same))

abbrev number : Option KindId → Option ℕ
number = option_map (λ kind. kind.0)

-- all but the first
abbrev tail : List (Option KindId) → List (Option KindId)
tail seen = take (length seen - 1) (drop 1 seen)

-- what is behind the first of a slice is no window, so the slice is none
pub none_behind : (seen : List (Option KindId)) (k : ℕ) → k ≡ length seen → 1 ≤ length seen → ((h : List ℕ) → length h ≤ 3 → seen_in (tail seen) ≢ window (k - 1) h) →
    (h : List ℕ) → length h ≤ 3 → seen_in seen ≢ window k h
none_behind [] k is some none h few same = absurd (omega arith)
none_behind (next ∷ seen) k is some none h few same =
    let whole : tail (next ∷ seen) ≡ seen = take_all (length (next ∷ seen) - 1) seen (omega arith) in
    window_behind k (k - 1) (number next) (seen_in seen) (omega arith) (λ h few same. none h few (ap seen_in whole ∙ same)) h few same

-- what is behind the first of a slice is the window of a head, so the slice is one or none as the first may stand before that head
pub put_behind : (seen : List (Option KindId)) (k : ℕ) (d : Option KindId) (head : Head) (r : Option Head) → k ≡ length seen → 1 ≤ length seen →
    (seen_in (tail seen) ≡ window (k - 1) (kinds_in head)) × (length (kinds_in head) ≤ k - 1) →
    option_map kinds_in r ≡ put_before (number (get_or seen 0 d)) (kinds_in head) →
    MatchOption r ((h : List ℕ) → length h ≤ 3 → seen_in seen ≢ window k h) (λ head. (seen_in seen ≡ window k (kinds_in head)) × (length (kinds_in head) ≤ k))
put_behind [] k d head r is some shown put = absurd (omega arith)
put_behind (next ∷ seen) k d head None is some shown put =
    let whole : tail (next ∷ seen) ≡ seen = take_all (length (next ∷ seen) - 1) seen (omega arith) in
    λ h few. window_never k (k - 1) (number next) (seen_in seen) (omega arith) (kinds_in head) (sym put) shown.1 (ap seen_in (sym whole) ∙ shown.0) h
put_behind (next ∷ seen) k d head (Some front) is some shown put =
    let whole : tail (next ∷ seen) ≡ seen = take_all (length (next ∷ seen) - 1) seen (omega arith) in
    window_put k (k - 1) (number next) (seen_in seen) (omega arith) (kinds_in head) (kinds_in front) (sym put) shown.1 (ap seen_in (sym whole) ∙ shown.0)
