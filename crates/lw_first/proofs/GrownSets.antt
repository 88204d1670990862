-- One set in the place of another: what the sets have then, and whether fewer heads are missing.
use Rattle.std.proofs.Common.{◌≡◌, ◌≢◌, ℕ, zero, suc, ◌<◌, ◌≤◌, List, [], ◌∷◌, Bool, true, false, Some, ◌⊎◌, inl, inr, ◌↔◌, ltb, length, slice_get, get_or, set, refl, sym, ap, ◌∙◌, subst, arith}
use Rattle.std.proofs.lemmas.Bool.{cases_eq, ltb-true, ltb-false}
use Rattle.std.proofs.lemmas.List.{set-get_or}
use Rattle.std.proofs.lemmas.List.Sums.{sum_by-set}
use Rattle.std.proofs.lemmas.Option.{same_Some, slice_get_read}
use Rattle.lw_first.specs.declared.heads.head.Head.{Head}
use Rattle.lw_first.specs.Sets.{AddsHeads, IsAmongHeads, IsInSet, most_heads}
use Rattle.lw_first.specs.Rounds.{heads_missing_in, GrewOrSame}

set_here : {X : Type 0} (xs : List X) (i : ℕ) (y : X) → i < length xs → slice_get (set xs i y) i ≡ Some y
set_here [] i y inside = absurd (omega arith)
set_here (x ∷ xs) zero y inside = refl
set_here (x ∷ xs) (suc i) y inside = set_here xs i y (omega arith)

set_other : {X : Type 0} (xs : List X) (i j : ℕ) (y : X) → j ≢ i → slice_get (set xs i y) j ≡ slice_get xs j
set_other [] i j y differs = refl
set_other (x ∷ xs) zero zero y differs = absurd (differs refl)
set_other (x ∷ xs) zero (suc j) y differs = refl
set_other (x ∷ xs) (suc i) zero y differs = refl
set_other (x ∷ xs) (suc i) (suc j) y differs = set_other xs i j y (λ same. differs (ap suc same))

module _ (sets : List (List Head)) (number : ℕ) (own new : List Head) (inside : number < length sets) (is : own ≡ get_or sets number own) where
  own_there : slice_get sets number ≡ Some own
  own_there = slice_get_read sets (length sets) number own refl inside is

  -- what is in the sets where one of them was put in the place of another
  pub in_sets : (P : List ℕ → Type 0) → AddsHeads P own new → (r : ℕ) (h : List ℕ) → IsInSet (set sets number new) r h ↔ (IsInSet sets r h ⊎ ((r ≡ number) × P h))
  in_sets P adds r h = elim (cases_eq r number) [
    | inl same ↦ (λ has. at_number same has, λ either. from_number same either)
    | inr differs ↦ (
      λ (heads, at, among). inl (heads, sym (set_other sets number r new differs) ∙ at, among),
      λ either. elim either [
        | inl has ↦ (has.0, set_other sets number r new differs ∙ has.1, has.2)
        | inr here ↦ absurd (differs here.0)
      ],
    )
  ]
    where
      grown : r ≡ number → IsAmongHeads own h ⊎ P h → IsInSet sets r h ⊎ ((r ≡ number) × P h)
      grown same (inl was) = inl (own, ap (slice_get sets) same ∙ own_there, was)
      grown same (inr does) = inr (same, does)

      at_number : r ≡ number → IsInSet (set sets number new) r h → IsInSet sets r h ⊎ ((r ≡ number) × P h)
      at_number same (heads, at, among) =
          let there : slice_get (set sets number new) r ≡ Some new = ap (slice_get (set sets number new)) same ∙ set_here sets number new inside in
          grown same ((adds h).0 (subst (λ xs. IsAmongHeads xs h) (same_Some heads new (sym at ∙ there)) among))

      before : IsInSet sets r h ⊎ ((r ≡ number) × P h) → r ≡ number → IsAmongHeads own h ⊎ P h
      before (inl (heads, at, among)) same = inl (subst (λ xs. IsAmongHeads xs h) (same_Some heads own (sym at ∙ ap (slice_get sets) same ∙ own_there)) among)
      before (inr (_, does)) same = inr does

      from_number : r ≡ number → IsInSet sets r h ⊎ ((r ≡ number) × P h) → IsInSet (set sets number new) r h
      from_number same either = (new, ap (slice_get (set sets number new)) same ∙ set_here sets number new inside, (adds h).1 (before either same))

  -- where the set got a head, fewer are missing
  pub grew_or_same : (has_new : Bool) → length new ≤ most_heads → (has_new ≡ true → length own < length new) → (has_new ≡ false → new ≡ own) →
      GrewOrSame sets (set sets number new) (ltb (length own) (length new))
  grew_or_same has_new few grows same = by (ltb (length own) (length new)) refl
    where
      not_new : (b : Bool) → (b ≡ true → length own < length new) → (b ≡ false → new ≡ own) → length new ≤ length own → new ≡ own
      not_new true grows same no_more = absurd (omega (arith, grows refl))
      not_new false grows same no_more = same refl

      by : (b : Bool) → ltb (length own) (length new) ≡ b → GrewOrSame sets (set sets number new) b
      by true more =
          let longer = ltb-true (length own) (length new) more in
          let sum = sum_by-set heads_missing_in sets number new own inside in
          let here : heads_missing_in (get_or sets number own) ≡ heads_missing_in own = ap heads_missing_in (sym is) in
          omega (arith, longer, sum, here, few)
      by false more =
          let old = not_new has_new grows same (ltb-false (length own) (length new) more) in
          ap (set sets number) (old ∙ is) ∙ set-get_or sets number own
