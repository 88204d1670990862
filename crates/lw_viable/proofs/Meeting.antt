-- A row of flags by the heads that are gone through so far.
use Rattle.std.proofs.Common.{◌≡◌, ℕ, ◌+◌, ◌<◌, ◌≤◌, ◌⊎◌, ◌↔◌, List, [], ◌∷◌, Bool, Some, length, slice_get, sym, ap, ◌∙◌, subst, inl, inr, arith}
use Rattle.std.proofs.lemmas.Option.{slice_get_within, same_Some}
use Rattle.std.proofs.lemmas.Bool.{cases_lt}
use Rattle.lw_first.specs.declared.heads.head.Head.{Head}
use Rattle.lw_first.specs.Heads.{kinds_in}
use Rattle.lw_first.specs.Sets.{IsAmongHeads}
use Rattle.lw_base.proofs.Lists.{place_of, among}
use Rattle.lw_viable.specs.EmptyBy.{IsFlagged}
use Rattle.lw_viable.specs.BeginsWith.{MeetsKind}
use Rattle.lw_viable.specs.Told.{IsMet}

-- one of so many first heads has this kind alone
abbrev pub IsAmongFirst : List Head → ℕ → ℕ → Type 0
IsAmongFirst heads n k = (i : ℕ) × (head : Head) × (i < n) × (slice_get heads i ≡ Some head) × (kinds_in head ≡ k ∷ [])

module _ (heads : List Head) (kinds : ℕ) where
  pub record IsMetUpTo (row : List Bool) (n : ℕ) : Type 0 where
    pub sized : length row ≡ kinds
    pub met : (k : ℕ) → k < kinds → IsFlagged row k ↔ (IsAmongHeads heads [] ⊎ IsAmongFirst heads n k)

  pub meet_next : (row next : List Bool) (n : ℕ) (head : Head) → slice_get heads n ≡ Some head → IsMetUpTo row n → length next ≡ length row →
      ((k : ℕ) → k < length row → IsFlagged next k ↔ (IsFlagged row k ⊎ (kinds_in head ≡ k ∷ []))) → IsMetUpTo next (n + 1)
  meet_next row next n head at was sized meets = record { sized = sized ∙ was.sized; met = λ k below. (to k below, fro k below) }
    where
      old : (k : ℕ) → IsAmongHeads heads [] ⊎ IsAmongFirst heads n k → IsAmongHeads heads [] ⊎ IsAmongFirst heads (n + 1) k
      old k (inl none) = inl none
      old k (inr (i, h, before, there, is)) = inr (i, h, omega arith, there, is)

      to : (k : ℕ) → k < kinds → IsFlagged next k → IsAmongHeads heads [] ⊎ IsAmongFirst heads (n + 1) k
      to k below flagged = by ((meets k (omega (arith, was.sized))).0 flagged)
        where
          by : IsFlagged row k ⊎ (kinds_in head ≡ k ∷ []) → IsAmongHeads heads [] ⊎ IsAmongFirst heads (n + 1) k
          by (inl before) = old k ((was.met k below).0 before)
          by (inr is) = inr (n, head, omega arith, at, is)

      fro : (k : ℕ) → k < kinds → IsAmongHeads heads [] ⊎ IsAmongFirst heads (n + 1) k → IsFlagged next k
      fro k below (inl none) = (meets k (omega (arith, was.sized))).1 (inl ((was.met k below).1 (inl none)))
      fro k below (inr (i, h, before, there, is)) =
          (meets k (omega (arith, was.sized))).1
          (elim (cases_lt i n) [
            | inl sooner ↦ inl ((was.met k below).1 (inr (i, h, sooner, there, is)))
            | inr last ↦
                let same : n ≡ i = omega arith in
                let one : head ≡ h = same_Some head h (sym at ∙ ap (slice_get heads) same ∙ there) in
                inr (ap kinds_in one ∙ is)
          ])

  pub met_by_all : (row : List Bool) (n : ℕ) → IsMetUpTo row n → length heads ≤ n → (k : ℕ) → k < kinds → IsFlagged row k ↔ MeetsKind heads k
  met_by_all row n was all k below = (λ flagged. to ((was.met k below).0 flagged), λ meets. (was.met k below).1 (fro meets))
    where
      to : IsAmongHeads heads [] ⊎ IsAmongFirst heads n k → MeetsKind heads k
      to (inl none) = inl none
      to (inr (i, h, before, there, is)) = inr (h, among heads i h there, is)

      fro : MeetsKind heads k → IsAmongHeads heads [] ⊎ IsAmongFirst heads n k
      fro (inl none) = inl none
      fro (inr (h, has, is)) = let (i, at) = place_of heads h has in inr (i, h, omega (arith, all, slice_get_within heads i h at), at, is)

-- ---- rows beside each other

-- a flag for each of so many kinds: it comes next by the heads
abbrev pub TellsRow : ℕ → ℕ → List Head → List Bool → Type 0
TellsRow kinds i heads row = (k : ℕ) → k < kinds → IsFlagged row k ↔ MeetsKind heads k

pub row_meets : (kinds : ℕ) (heads : List Head) (rows : List (List Bool)) (r k : ℕ) → k < kinds →
    (row : List Bool) × (slice_get rows r ≡ Some row) × TellsRow kinds r heads row → IsMet rows r k ↔ MeetsKind heads k
row_meets kinds heads rows r k below (row, at, tells) = (
  λ (other, there, flagged). (tells k below).0 (subst (λ row. IsFlagged row k) (same_Some other row (sym there ∙ at)) flagged),
  λ meets. (row, at, (tells k below).1 meets),
)
