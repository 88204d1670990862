-- The first place of a knockout holds the document that comes first of all.
use Rattle.std.proofs.Common.{◌≡◌, ℕ, ◌+◌, ◌*◌, ◌/◌, ◌<◌, ◌≤◌, length, Bool, true, false, cond, zero, suc, Option, Some, None, refl, sym, ap, subst, ◌∙◌, ◌⊎◌, inl, inr, arith}
use Rattle.std.specs.declared.cmp.Ordering.{Ordering}
use Rattle.std.specs.declared.cmp.Ordering.TheVariants.{Less, Equal, Greater}
use Rattle.std.specs.Ordering.{ordering_reverse, is_gt}
use Rattle.std.specs.Cmp.{IsTotalOrder}
use Rattle.std.proofs.lemmas.Bool.{cases_eq, cases_lt}
use Rattle.std.proofs.lemmas.Cmp.{nat_cmp_total, nat_list_cmp_total, then_total, on_total, tied_itself, upto}
use Rattle.std.proofs.lemmas.List.{get_or_past}
use Rattle.lw_docs.specs.declared.knockout.Entrant.{Entrant}
use Rattle.lw_docs.specs.Table.{Slots, doc_in, address_in}
use Rattle.lw_docs.specs.Knockout.{waiting_of, cell_at, turn_cmp, earlier, best, IsKnockout}
use Rattle.lw_docs.proofs.Cells.{Cells, HoldsNone, no_entrant, earlier_is, waiting_number}

turn_total : (slots : Slots) → IsTotalOrder (turn_cmp slots)
turn_total slots = then_total (on_total (λ (w : Entrant). w.rank) nat_cmp_total) (on_total (λ (w : Entrant). address_in slots w.number) nat_list_cmp_total)

abbrev pub NotBehind : Slots → Entrant → Entrant → Type 0
NotBehind slots v w = is_gt (turn_cmp slots v w) ≡ false

itself : (slots : Slots) (w : Entrant) → NotBehind slots w w
itself slots w = ap is_gt (tied_itself (turn_total slots) w)

turned : (slots : Slots) (v w : Entrant) (r : Ordering) → turn_cmp slots v w ≡ r → is_gt r ≡ true → NotBehind slots w v
turned slots v w Less is e = cc
turned slots v w Equal is e = cc
turned slots v w Greater is e = ap is_gt ((turn_total slots).antisymm w v ∙ ap ordering_reverse is)

-- one that is found, and does not come behind another
abbrev pub FoundBefore : Slots → Entrant → Option Entrant → Type 0
FoundBefore slots w found = (v : Entrant) × (found ≡ Some v) × NotBehind slots v w

left_of : (slots : Slots) (u : Entrant) (b : Option Entrant) → FoundBefore slots u (earlier slots (Some u) b)
left_of slots u None = (u, refl, itself slots u)
left_of slots u (Some w) = by (is_gt (turn_cmp slots u w)) refl
  where
    by : (t : Bool) → is_gt (turn_cmp slots u w) ≡ t → FoundBefore slots u (cond t (Some w) (Some u))
    by true e = (w, refl, turned slots u w _ refl e)
    by false e = (u, refl, itself slots u)

right_of : (slots : Slots) (a : Option Entrant) (u : Entrant) → FoundBefore slots u (earlier slots a (Some u))
right_of slots None u = (u, refl, itself slots u)
right_of slots (Some x) u = by (is_gt (turn_cmp slots x u)) refl
  where
    by : (t : Bool) → is_gt (turn_cmp slots x u) ≡ t → FoundBefore slots u (cond t (Some u) (Some x))
    by true e = (u, refl, itself slots u)
    by false e = (x, refl, e)

-- what does not come behind one that is found
left_found : (slots : Slots) (u : Entrant) (a b : Option Entrant) → FoundBefore slots u a → FoundBefore slots u (earlier slots a b)
left_found slots u a b (v, is, before) =
    let h = left_of slots v b in
    (h.0, ap (λ o. earlier slots o b) is ∙ h.1, upto (turn_total slots) h.0 v u h.2 before)

right_found : (slots : Slots) (u : Entrant) (a b : Option Entrant) → FoundBefore slots u b → FoundBefore slots u (earlier slots a b)
right_found slots u a b (v, is, before) =
    let h = right_of slots a v in
    (h.0, ap (earlier slots a) is ∙ h.1, upto (turn_total slots) h.0 v u h.2 before)

module _ (slots : Slots) (cells : Cells) (place : ℕ) where
  best_is : best slots cells place ≡ earlier slots (earlier slots (waiting_of place (doc_in slots place)) (cell_at cells (2 * place + 1))) (cell_at cells (2 * place + 2))
  unfolding best
  best_is = refl

  held_within : (w : Entrant) → cell_at cells place ≡ Some w → place < length cells
  held_within w is = elim (cases_lt place (length cells)) [ inl less ↦ less | inr past ↦ absurd (no_entrant w (sym (get_or_past cells place None past) ∙ is)) ]

module _ (slots : Slots) (cells : Cells) (all : IsKnockout slots cells) where
  -- what a place holds waits as the table says
  entered : (steps place : ℕ) (w : Entrant) → length cells ≤ place + steps → cell_at cells place ≡ Some w → waiting_of w.number (doc_in slots w.number) ≡ Some w
  entered zero place w few is = absurd (let h = held_within slots cells place w is in omega (arith, h, few))
  entered (suc steps) place w few is =
      let within = held_within slots cells place w is in
      elim (earlier_is slots slots slots (earlier slots (waiting_of place (doc_in slots place)) (cell_at cells (2 * place + 1))) (cell_at cells (2 * place + 2)) w (sym (best_is slots cells place) ∙ sym (all place within) ∙ is)) [
        | inl left ↦ (elim (earlier_is slots slots slots (waiting_of place (doc_in slots place)) (cell_at cells (2 * place + 1)) w left) [
          | inl own ↦ subst (λ n. waiting_of n (doc_in slots n) ≡ Some w) (sym (waiting_number place (doc_in slots place) w own)) own
          | inr first ↦ entered steps (2 * place + 1) w (omega (arith, few)) first
        ])
        | inr second ↦ entered steps (2 * place + 2) w (omega (arith, few)) second
      ]

  pub entered_waits : (place : ℕ) (w : Entrant) → cell_at cells place ≡ Some w → waiting_of w.number (doc_in slots w.number) ≡ Some w
  entered_waits place w is = entered (length cells) place w (omega arith) is

  -- who does not wait is in no place
  pub holds_none : (number : ℕ) → waiting_of number (doc_in slots number) ≡ None → HoldsNone cells number
  holds_none number none place w is same =
      no_entrant w (sym none ∙ sym (ap (λ n. waiting_of n (doc_in slots n)) same) ∙ entered_waits place w is)

  halves : (k : ℕ) → (k ≡ 2 * (k / 2)) ⊎ (k ≡ 2 * (k / 2) + 1)
  halves k = elim (cases_eq k (2 * (k / 2))) [ inl even ↦ inl even | inr odd ↦ inr (omega (arith, odd)) ]

  -- nothing that a place holds comes before the first
  upwards : (steps place : ℕ) (u : Entrant) → place ≤ steps → cell_at cells place ≡ Some u → FoundBefore slots u (cell_at cells 0)
  upwards steps zero u few is = (u, is, itself slots u)
  upwards zero (suc k) u few is = absurd (omega (arith, few))
  upwards (suc steps) (suc k) u few is =
      let parent : ℕ = k / 2 in
      let h : parent ≤ k = omega arith in
      let within = held_within slots cells (suc k) u is in
      let own : Option Entrant = waiting_of parent (doc_in slots parent) in
      let first : Option Entrant = cell_at cells (2 * parent + 1) in
      let second : Option Entrant = cell_at cells (2 * parent + 2) in
      let below : FoundBefore slots u (earlier slots (earlier slots own first) second) = elim (halves k) [
        | inl even ↦ left_found slots u (earlier slots own first) second (right_found slots u own first (u, ap (cell_at cells) (let e : 2 * parent + 1 ≡ suc k = omega (arith, even) in e) ∙ is, itself slots u))
        | inr odd ↦ right_found slots u (earlier slots own first) second (u, ap (cell_at cells) (let e : 2 * parent + 2 ≡ suc k = omega (arith, odd) in e) ∙ is, itself slots u)
      ] in
      let at : cell_at cells parent ≡ Some below.0 = all parent (omega (arith, h, within)) ∙ best_is slots cells parent ∙ below.1 in
      let top = upwards steps parent below.0 (omega (arith, h, few)) at in
      (top.0, top.1, upto (turn_total slots) top.0 below.0 u top.2 below.2)

  -- nobody who waits comes before the first
  pub first_of_all : length slots ≤ length cells → (number : ℕ) (w : Entrant) → waiting_of number (doc_in slots number) ≡ Some w → FoundBefore slots w (cell_at cells 0)
  first_of_all many number w is =
      let within : number < length cells = elim (cases_lt number (length cells)) [
        | inl less ↦ less
        | inr past ↦ absurd (no_entrant w (sym (ap (waiting_of number) (get_or_past slots number None (omega (arith, many, past)))) ∙ is))
      ] in
      let first : Option Entrant = cell_at cells (2 * number + 1) in
      let second : Option Entrant = cell_at cells (2 * number + 2) in
      let below = left_found slots w (earlier slots (waiting_of number (doc_in slots number)) first) second (left_found slots w (waiting_of number (doc_in slots number)) first (w, is, itself slots w)) in
      let at : cell_at cells number ≡ Some below.0 = all number within ∙ best_is slots cells number ∙ below.1 in
      let top = upwards number number below.0 (omega arith) at in
      (top.0, top.1, upto (turn_total slots) top.0 below.0 w top.2 below.2)
