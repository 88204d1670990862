-- What a write to one place of a knockout leaves of the others, and what a document that comes, goes or turns leaves of it.
use Rattle.std.proofs.Common.{◌≡◌, ◌≢◌, ℕ, ◌+◌, ◌*◌, ◌<◌, ◌≤◌, List, [], ◌∷◌, ◌++◌, length, set, Bool, true, false, cond, zero, suc, length-append, Option, Some, None, refl, sym, ap, ◌∙◌, ◌⊎◌, inl, inr, arith}
use Rattle.std.specs.Ordering.{nat_cmp, ordering_then, is_gt}
use Rattle.std.specs.Cmp.Lexicographic.{slice_cmp}
use Rattle.std.proofs.lemmas.Bool.{cases_eq}
use Rattle.std.proofs.lemmas.List.{get_or-set_same, get_or-set_other, get_or_past}
use Rattle.std.specs.Prelude.{nat_lt}
use Rattle.std.specs.Option.{option_map_or}
use Rattle.lw_docs.specs.declared.doc.Doc.{Doc}
use Rattle.lw_docs.specs.declared.knockout.Entrant.{Entrant}
use Rattle.lw_machine.specs.Documents.{rank}
use Rattle.lw_docs.specs.Table.{doc_in, address_in}
use Rattle.lw_docs.specs.Knockout.{waiting_of, cell_at, earlier, best, IsKnockout, IsKnockoutBut}

abbrev pub Slots : Type 0
Slots = List (Option Doc)

abbrev pub Cells : Type 0
Cells = List (Option Entrant)

-- the same entrant, and the same two places behind it, by the same documents: the same is best
pub best_cells : (slots : Slots) (cells after : Cells) (place : ℕ) → cell_at after (2 * place + 1) ≡ cell_at cells (2 * place + 1) →
    cell_at after (2 * place + 2) ≡ cell_at cells (2 * place + 2) → best slots after place ≡ best slots cells place
unfolding best
best_cells slots cells after place left right i = earlier slots (earlier slots (waiting_of place (doc_in slots place)) (left i)) (right i)

-- ---- a place is written

module _ (slots : Slots) (cells : Cells) (place half : ℕ) (within : place < length cells) (halved : (place + 1 ≡ 2 * half) ⊎ (place + 1 ≡ 2 * half + 1)) (others : IsKnockoutBut slots cells place) where
  abbrev written : Cells
  written = set cells place (best slots cells place)

  behind : (p : ℕ) → p ≢ place → cell_at written p ≡ cell_at cells p
  behind p other = get_or-set_other cells place p (best slots cells place) None other

  not_behind : (p : ℕ) → p + 1 ≢ half → (2 * p + 1 ≢ place) × (2 * p + 2 ≢ place)
  not_behind p other = elim halved [
    | inl even ↦ (λ e. other (omega (arith, even, e)), λ e. other (omega (arith, even, e)))
    | inr odd ↦ (λ e. other (omega (arith, odd, e)), λ e. other (omega (arith, odd, e)))
  ]

  pub one_written : (p : ℕ) → p < length cells → p + 1 ≢ half → cell_at written p ≡ best slots written p
  one_written p less other =
      let n = not_behind p other in
      let same : best slots written p ≡ best slots cells p = best_cells slots cells written p (behind (2 * p + 1) n.0) (behind (2 * p + 2) n.1) in
      elim (cases_eq p place) [
        | inl here ↦ ap (cell_at written) here ∙ get_or-set_same cells place (best slots cells place) None within ∙ ap (best slots cells) (sym here) ∙ sym same
        | inr away ↦ behind p away ∙ others p less away ∙ sym same
      ]

-- ---- documents come, go and turn

-- no place holds a document of this number
abbrev pub HoldsNone : Cells → ℕ → Type 0
HoldsNone cells number = (place : ℕ) (w : Entrant) → cell_at cells place ≡ Some w → w.number ≢ number

module _ (slots after : Slots) where
  abbrev same_address : Option Entrant → Type 0
  same_address found = (w : Entrant) → found ≡ Some w → address_in after w.number ≡ address_in slots w.number

  pub earlier_same : (a b : Option Entrant) → same_address a → same_address b → earlier after a b ≡ earlier slots a b
  earlier_same None b p q = refl
  earlier_same (Some a) None p q = refl
  earlier_same (Some a) (Some b) p q =
      ap (λ r. cond (is_gt (ordering_then (nat_cmp a.rank b.rank) r)) (Some b) (Some a)) ((λ i. slice_cmp nat_cmp (p a refl i) (q b refl i)))

  pub earlier_is : (slots : Slots) (a b : Option Entrant) (w : Entrant) → earlier slots a b ≡ Some w → (a ≡ Some w) ⊎ (b ≡ Some w)
  earlier_is slots None b w e = inr e
  earlier_is slots (Some a) None w e = inl e
  earlier_is slots (Some a) (Some b) w e = by (is_gt (ordering_then (nat_cmp a.rank b.rank) (slice_cmp nat_cmp (address_in slots a.number) (address_in slots b.number)))) e
    where
      by : (t : Bool) → cond t (Some b) (Some a) ≡ Some w → (Some a ≡ Some w) ⊎ (Some b ≡ Some w)
      by true e = inr e
      by false e = inl e

  module _ (cells : Cells) (place : ℕ) (own : waiting_of place (doc_in after place) ≡ waiting_of place (doc_in slots place))
      (at_own : same_address (waiting_of place (doc_in slots place))) (at_cells : (p : ℕ) → same_address (cell_at cells p)) where
    -- where the documents have the same states and addresses that it asks for, the same is best
    pub best_same : best after cells place ≡ best slots cells place
    unfolding best
    best_same =
        let left : Option Entrant = earlier slots (waiting_of place (doc_in slots place)) (cell_at cells (2 * place + 1)) in
        let first : earlier after (waiting_of place (doc_in after place)) (cell_at cells (2 * place + 1)) ≡ left =
        ap (λ o. earlier after o (cell_at cells (2 * place + 1))) own ∙ earlier_same (waiting_of place (doc_in slots place)) (cell_at cells (2 * place + 1)) at_own (at_cells (2 * place + 1)) in
        ap (λ o. earlier after o (cell_at cells (2 * place + 2))) first
        ∙ earlier_same left (cell_at cells (2 * place + 2))
        (λ w e. elim (earlier_is slots (waiting_of place (doc_in slots place)) (cell_at cells (2 * place + 1)) w e) [ inl h ↦ at_own w h | inr h ↦ at_cells (2 * place + 1) w h ])
        (at_cells (2 * place + 2))

pub no_entrant : (w : Entrant) → None ≡ Some w → ⊥
no_entrant w e = cc

pub waiting_number : (n : ℕ) (o : Option Doc) (w : Entrant) → waiting_of n o ≡ Some w → w.number ≡ n
waiting_number n None w e = absurd (no_entrant w e)
waiting_number n (Some x) w e = by (rank x.state) (nat_lt (rank x.state) 6) e
  where
    same : (v w : Entrant) → Some v ≡ Some w → v ≡ w
    same v w e = cc

    by : (r : ℕ) (t : Bool) → cond t (Some (record { rank = r; number = n })) None ≡ Some w → w.number ≡ n
    by r true e = ap (λ (v : Entrant). v.number) (sym (same (record { rank = r; number = n }) w e))
    by r false e = absurd (no_entrant w e)

address_from : (slots after : Slots) (n : ℕ) → doc_in after n ≡ doc_in slots n → address_in after n ≡ address_in slots n
address_from slots after n same = ap (λ o. option_map_or (λ (x : Doc). x.uri) o []) same

-- the document of one number comes or goes, which no place holds
pub knockout_but : (slots after : Slots) (cells : Cells) (number : ℕ) → HoldsNone cells number →
    ((n : ℕ) → n ≢ number → doc_in after n ≡ doc_in slots n) → IsKnockout slots cells → IsKnockoutBut after cells number
knockout_but slots after cells number none same all place less other =
    all place less ∙ sym (best_same slots after cells place (ap (waiting_of place) (same place other))
    (λ w e. address_from slots after w.number (same w.number (λ h. other (sym (waiting_number place (doc_in slots place) w e) ∙ h))))
    (λ p w e. address_from slots after w.number (same w.number (none p w e))))

-- where it does not wait before or after, nothing is to be done
pub knockout_still : (slots after : Slots) (cells : Cells) (number : ℕ) → HoldsNone cells number →
    ((n : ℕ) → n ≢ number → doc_in after n ≡ doc_in slots n) → waiting_of number (doc_in slots number) ≡ None → waiting_of number (doc_in after number) ≡ None →
    IsKnockout slots cells → IsKnockout after cells
knockout_still slots after cells number none same before now all place less = elim (cases_eq place number) [
  | inl here ↦ all place less ∙ sym (best_same slots after cells place
      (ap (λ n. waiting_of n (doc_in after n)) here ∙ now ∙ sym before ∙ sym (ap (λ n. waiting_of n (doc_in slots n)) here))
      (λ w e. absurd (no_entrant w (sym before ∙ sym (ap (λ n. waiting_of n (doc_in slots n)) here) ∙ e)))
      (λ p w e. address_from slots after w.number (same w.number (none p w e))))
  | inr away ↦ knockout_but slots after cells number none same all place less away
]

-- the document of one number turns, at its address
pub knockout_turned : (slots after : Slots) (cells : Cells) (number : ℕ) → ((n : ℕ) → n ≢ number → doc_in after n ≡ doc_in slots n) →
    address_in after number ≡ address_in slots number → IsKnockout slots cells → IsKnockoutBut after cells number
knockout_turned slots after cells number same here all place less other =
    all place less ∙ sym (best_same slots after cells place (ap (waiting_of place) (same place other)) (λ w e. address w.number) (λ p w e. address w.number))
  where
    address : (n : ℕ) → address_in after n ≡ address_in slots n
    address n = elim (cases_eq n number) [
      | inl at ↦ ap (address_in after) at ∙ here ∙ sym (ap (address_in slots) at)
      | inr away ↦ address_from slots after n (same n away)
    ]

-- the documents stay as the build sees them
pub knockout_kept : (slots after : Slots) (cells : Cells) → ((n : ℕ) → waiting_of n (doc_in after n) ≡ waiting_of n (doc_in slots n)) →
    ((n : ℕ) → address_in after n ≡ address_in slots n) → IsKnockout slots cells → IsKnockout after cells
knockout_kept slots after cells same address all place less =
    all place less ∙ sym (best_same slots after cells place (same place) (λ w e. address w.number) (λ p w e. address w.number))

-- one more place, for a number without a document
pub cell_push : (cells : Cells) (p : ℕ) → cell_at (cells ++ None ∷ []) p ≡ cell_at cells p
cell_push [] zero = refl
cell_push [] (suc p) = refl
cell_push (c ∷ cells) zero = refl
cell_push (c ∷ cells) (suc p) = cell_push cells p

pub doc_push : (slots : Slots) (n : ℕ) → doc_in (slots ++ None ∷ []) n ≡ doc_in slots n
doc_push [] zero = refl
doc_push [] (suc n) = refl
doc_push (s ∷ slots) zero = refl
doc_push (s ∷ slots) (suc n) = doc_push slots n

best_past : (slots : Slots) (cells : Cells) (place : ℕ) → length slots ≤ place → length cells ≤ place → best slots cells place ≡ None
unfolding best
best_past slots cells place few less =
    let own : waiting_of place (doc_in slots place) ≡ None = ap (waiting_of place) (get_or_past slots place None few) in
    let left : cell_at cells (2 * place + 1) ≡ None = get_or_past cells (2 * place + 1) None (omega (arith, less)) in
    let right : cell_at cells (2 * place + 2) ≡ None = get_or_past cells (2 * place + 2) None (omega (arith, less)) in
    λ i. earlier slots (earlier slots (own i) (left i)) (right i)

pub knockout_push : (slots : Slots) (cells : Cells) → length slots ≡ length cells → IsKnockout slots cells → IsKnockout (slots ++ None ∷ []) (cells ++ None ∷ [])
knockout_push slots cells even all place less =
    cell_push cells place ∙ by (cases_eq place (length cells))
    ∙ sym (best_cells slots cells (cells ++ None ∷ []) place (cell_push cells (2 * place + 1)) (cell_push cells (2 * place + 2)))
    ∙ sym (best_same slots (slots ++ None ∷ []) (cells ++ None ∷ []) place (ap (waiting_of place) (doc_push slots place)) (λ w e. address w.number) (λ p w e. address w.number))
  where
    address : (n : ℕ) → address_in (slots ++ None ∷ []) n ≡ address_in slots n
    address n = address_from slots (slots ++ None ∷ []) n (doc_push slots n)

    by : (place ≡ length cells) ⊎ (place ≢ length cells) → cell_at cells place ≡ best slots cells place
    by (inl end) = get_or_past cells place None (omega (arith, end)) ∙ sym (best_past slots cells place (omega (arith, end, even)) (omega (arith, end)))
    by (inr inside) = all place (let l : length (cells ++ None ∷ []) ≡ length cells + 1 = length-append cells (None ∷ []) in omega (arith, l, less, inside))
