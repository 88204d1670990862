-- The least of what was found type by type.
use Rattle.std.proofs.Common.{◌≡◌, ◌≢◌, ℕ, ◌+◌, ◌<◌, ◌≤◌, List, false, Option, Some, None, refl, sym, ap, subst, ◌∙◌, ◌⊎◌, inl, inr, arith}
use Rattle.std.specs.Prelude.{IsTrue}
use Rattle.std.specs.Ordering.{nat_cmp, ordering_then}
use Rattle.std.specs.Cmp.{IsTotalOrder, upto}
use Rattle.std.specs.Cmp.Lexicographic.{slice_cmp}
use Rattle.std.specs.FinSet as set
use Rattle.std.proofs.lemmas.Bool.{false≢true, cases_lt}
use Rattle.std.proofs.lemmas.Cmp.{nat_cmp_total, nat_list_cmp_total, then_total, on_total}
use Rattle.lw_base.specs.declared.numbers.DocId.{DocId}
use Rattle.lw_index.specs.declared.parts.Target.{Target}
use Rattle.lw_index.specs.Firsts.{IsNotBehind}
use Rattle.lw_index.specs.Least.{Found, IsAmongWanted, IsNotAfter, IsLeastOf, IsLeastFound, IsLesserOf}
use Rattle.lw_index.specs.Slots.{Exporters, slot_in, filled}

abbrev Spot : Type 0
Spot = List ℕ × ℕ

spot_total : IsTotalOrder (λ (a b : Spot). ordering_then (slice_cmp nat_cmp a.0 b.0) (nat_cmp a.1 b.1))
spot_total = then_total (on_total (λ (s : Spot). s.0) nat_list_cmp_total) (on_total (λ (s : Spot). s.1) nat_cmp_total)

pub behind_chain : (a b c : Spot) → IsNotBehind a b → IsNotBehind b c → IsNotBehind a c
behind_chain a b c = upto spot_total a b c

pub lesser_second : (p q : Option Found) (a b : Found) → p ≡ Some a → q ≡ Some b → IsNotAfter b a → IsLesserOf p q (Some b)
lesser_second p q a b e f h = subst (λ x. IsLesserOf x q (Some b)) (sym e) (subst (λ y. IsLesserOf (Some a) y (Some b)) (sym f) (inr (refl, h)))

module _ (P Q : List ℕ → Target → Type 0) where
  pub same_least : ((u : List ℕ) (x : Target) → P u x → Q u x) → ((u : List ℕ) (x : Target) → Q u x → P u x) → (f : Option Found) → IsLeastFound P f → IsLeastFound Q f
  same_least to from None h = λ u x q. h u x (from u x q)
  same_least to from (Some f) h = record { here = to f.0 f.1 h.here; least = λ u x q. h.least u x (from u x q) }

  abbrev Either : List ℕ → Target → Type 0
  Either u x = P u x ⊎ Q u x

  first_least : (a b : Found) → IsLeastOf P a → IsLeastOf Q b → IsNotAfter a b → IsLeastOf Either a
  first_least a b h k le = record {
    here = inl h.here;
    least = λ u x e. elim e [ inl p ↦ h.least u x p | inr q ↦ behind_chain (a.0, a.1.node.0) (b.0, b.1.node.0) (u, x.node.0) le (k.least u x q) ];
  }

  second_least : (a b : Found) → IsLeastOf P a → IsLeastOf Q b → IsNotAfter b a → IsLeastOf Either b
  second_least a b h k le = record {
    here = inr k.here;
    least = λ u x e. elim e [ inl p ↦ behind_chain (b.0, b.1.node.0) (a.0, a.1.node.0) (u, x.node.0) le (h.least u x p) | inr q ↦ k.least u x q ];
  }

  -- the lesser of the least of two kinds is the least of both
  pub joined_least : (a b f : Option Found) → IsLeastFound P a → IsLeastFound Q b → IsLesserOf a b f → IsLeastFound Either f
  joined_least None None f h k is = subst (IsLeastFound Either) (sym is) (λ u x e. elim e [ inl p ↦ h u x p | inr q ↦ k u x q ])
  joined_least None (Some b) f h k is = subst (IsLeastFound Either) (sym is) (record {
    here = inr k.here;
    least = λ u x e. elim e [ inl p ↦ absurd (h u x p) | inr q ↦ k.least u x q ];
  })
  joined_least (Some a) None f h k is = subst (IsLeastFound Either) (sym is) (record {
    here = inl h.here;
    least = λ u x e. elim e [ inl p ↦ h.least u x p | inr q ↦ absurd (k u x q) ];
  })
  joined_least (Some a) (Some b) f h k is = elim is [
    | inl w ↦ subst (IsLeastFound Either) (sym w.0) (first_least a b h k w.1)
    | inr w ↦ subst (IsLeastFound Either) (sym w.0) (second_least a b h k w.1)
  ]

module _ (es : Exporters) (types : set.FinSet nat_cmp) (except : Option DocId) where
  -- among the wanted ones, and of a type below a number
  abbrev pub IsBelow : ℕ → List ℕ → Target → Type 0
  IsBelow from uri x = (t : ℕ) × (t < from) × IsTrue (set.contains types t) × (filled (slot_in es (t, uri)) ≡ Some x) × (except ≢ Some x.doc)

  abbrev IsOf : ℕ → List ℕ → Target → Type 0
  IsOf found uri x = (filled (slot_in es (found, uri)) ≡ Some x) × (except ≢ Some x.doc)

  abbrev pub NoSlots : ℕ → ℕ → Type 0
  NoSlots from to = (t : ℕ) (u : List ℕ) → from ≤ t → t < to → slot_in es (t, u) ≡ None

  nothing_at : (p : ℕ × List ℕ) (x : Target) → slot_in es p ≡ None → filled (slot_in es p) ≡ Some x → ⊥
  nothing_at p x none some = let e : None ≡ Some x = sym (ap filled none) ∙ some in cc

  -- a type below the next one was below the one before, or is the one that was found
  split_at : (from found t : ℕ) (u : List ℕ) (x : Target) → from ≤ found → NoSlots from found → t < found + 1 → filled (slot_in es (t, u)) ≡ Some x → (t < from) ⊎ (t ≡ found)
  split_at from found t u x le none lt some = elim (cases_lt t from) [
    | inl below ↦ inl below
    | inr above ↦ elim (cases_lt t found) [
      | inl within ↦ absurd (nothing_at (t, u) x (none t u above within) some)
      | inr at ↦ inr (omega arith)
    ]
  ]

  pub passed_over : (from found : ℕ) (best : Option Found) → from ≤ found → NoSlots from found → set.contains types found ≡ false → IsLeastFound (IsBelow from) best → IsLeastFound (IsBelow (found + 1)) best
  passed_over from found best le none unwanted least =
      same_least (IsBelow from) (IsBelow (found + 1)) (λ u x w. (w.0, omega (arith, w.1), w.2, w.3, w.4))
      (λ u x w. elim (split_at from found w.0 u x le none w.1 w.3) [
        | inl below ↦ (w.0, below, w.2, w.3, w.4)
        | inr at ↦ absurd (false≢true (sym unwanted ∙ ap (set.contains types) (sym at) ∙ w.2))
      ]) best least

  pub taken_in : (from found : ℕ) (best other both : Option Found) → from ≤ found → NoSlots from found → IsTrue (set.contains types found)
      → IsLeastFound (IsBelow from) best → IsLeastFound (IsOf found) other → IsLesserOf best other both → IsLeastFound (IsBelow (found + 1)) both
  taken_in from found best other both le none wanted least first is =
      same_least (λ u x. IsBelow from u x ⊎ IsOf found u x) (IsBelow (found + 1))
      (λ u x e. elim e [ inl w ↦ (w.0, omega (arith, w.1), w.2, w.3, w.4) | inr w ↦ (found, omega arith, wanted, w.0, w.1) ])
      (λ u x w. elim (split_at from found w.0 u x le none w.1 w.3) [
        | inl below ↦ inl (w.0, below, w.2, w.3, w.4)
        | inr at ↦ inr (ap (λ t. filled (slot_in es (t, u))) (sym at) ∙ w.3, w.4)
      ]) both (joined_least (IsBelow from) (IsOf found) best other both least first is)

  pub all_below : (n : ℕ) (best : Option Found) → ((t : ℕ) (u : List ℕ) → n ≤ t → slot_in es (t, u) ≡ None) → IsLeastFound (IsBelow n) best → IsLeastFound (IsAmongWanted es types except) best
  all_below n best none least =
      same_least (IsBelow n) (IsAmongWanted es types except) (λ u x w. (w.0, w.2, w.3, w.4))
      (λ u x w. elim (cases_lt w.0 n) [ inl below ↦ (w.0, below, w.1, w.2, w.3) | inr above ↦ absurd (nothing_at (w.0, u) x (none w.0 u above) w.2) ])
      best least
