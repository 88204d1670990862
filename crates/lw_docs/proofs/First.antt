-- What the first place of the knockout holds is the document of the next build step.
use Rattle.std.proofs.Common.{◌≡◌, ◌≢◌, ℕ, ◌<◌, List, [], Bool, true, false, cond, Option, Some, None, refl, sym, ap, subst, ◌∙◌, inl, inr, arith, length}
use Rattle.std.specs.declared.cmp.Ordering.{Ordering}
use Rattle.std.specs.declared.cmp.Ordering.TheVariants.{Less, Equal, Greater}
use Rattle.std.specs.Ordering.{nat_cmp, ordering_then, is_gt}
use Rattle.std.specs.Prelude.{nat_lt}
use Rattle.std.specs.Option.{option_map_or}
use Rattle.std.specs.Cmp.{ranked}
use Rattle.std.specs.Cmp.Lexicographic.{slice_cmp}
use Rattle.std.proofs.lemmas.Bool.{cases_lt, false≢true, ltb-true, ltb-false}
use Rattle.std.proofs.lemmas.Option.{same_Some}
use Rattle.lw_base.specs.declared.numbers.DocId.{DocId}
use Rattle.lw_machine.specs.Documents.{rank}
use Rattle.lw_machine.specs.declared.state.State.{State}
use Rattle.lw_machine.proofs.FirstOf.{validated_at}
use Rattle.lw_docs.specs.declared.doc.Doc.{Doc}
use Rattle.lw_docs.specs.declared.knockout.Entrant.{Entrant}
use Rattle.lw_docs.specs.Least.{Precedes, by_state, by_address, IsLeast, AllValidated}
use Rattle.lw_docs.specs.Table.{Slots, Numbers, doc_in, address_in, held_in, AreNamed}
use Rattle.lw_docs.specs.Knockout.{waiting_of, cell_at, turn_cmp, IsKnockout}
use Rattle.lw_docs.proofs.Cells.{Cells, no_entrant}
use Rattle.lw_docs.proofs.FirstOfAll.{entered_waits, first_of_all}
use Rattle.lw_docs.proofs.View.{stands_at, in_table}

-- a document that waits, as the table has it
record Waits (slots : Slots) (w : Entrant) : Type 0 where
  doc : Doc
  there : doc_in slots w.number ≡ Some doc
  ranks : w.rank ≡ rank doc.state
  unfinished : rank doc.state < 6

waits_of : (slots : Slots) (w : Entrant) → waiting_of w.number (doc_in slots w.number) ≡ Some w → Waits slots w
waits_of slots w is = by (doc_in slots w.number) refl is
  where
    by : (o : Option Doc) → doc_in slots w.number ≡ o → waiting_of w.number o ≡ Some w → Waits slots w
    by None e h = absurd (no_entrant w h)
    by (Some x) e h = test (nat_lt (rank x.state) 6) refl h
      where
        test : (t : Bool) → nat_lt (rank x.state) 6 ≡ t → cond {A = Option Entrant} t (Some (record { rank = rank x.state; number = w.number })) None ≡ Some w → Waits slots w
        test true low same = record { doc = x; there = e; ranks = ap (λ (v : Entrant). v.rank) (sym (same_Some (record { rank = rank x.state; number = w.number }) w same)); unfinished = ltb-true (rank x.state) 6 low }
        test false low same = absurd (no_entrant w same)

waiting_low : (n : ℕ) (x : Doc) → rank x.state < 6 → waiting_of n (Some x) ≡ Some (record { rank = rank x.state; number = n })
waiting_low n x low = by (nat_lt (rank x.state) 6) refl
  where
    own : Entrant
    own = record { rank = rank x.state; number = n }

    by : (t : Bool) → nat_lt (rank x.state) 6 ≡ t → cond {A = Option Entrant} t (Some own) None ≡ Some own
    by true e = refl
    by false e = absurd (let h = ltb-false (rank x.state) 6 e in omega (arith, h, low))

not_greater : (r : Ordering) → is_gt r ≡ false → r ≢ Greater
not_greater r e is = false≢true (sym e ∙ ap is_gt is)

precedes : (s t : State) (a b : List ℕ) → is_gt (ordering_then (nat_cmp (rank s) (rank t)) (slice_cmp nat_cmp a b)) ≡ false → Precedes s a t b
precedes s t a b h = by (nat_cmp (rank s) (rank t)) refl h
  where
    by : (r : Ordering) → r ≡ nat_cmp (rank s) (rank t) → is_gt (ordering_then r (slice_cmp nat_cmp a b)) ≡ false → Precedes s a t b
    by Less is h = by_state (ranked (rank s) (rank t) Less is)
    by Equal is h = by_address (ranked (rank s) (rank t) Equal is) (not_greater _ h)
    by Greater is h = absurd (false≢true (sym h))

module _ (slots : Slots) (numbers : Numbers) (names : AreNamed slots numbers) (cells : Cells) (all : IsKnockout slots cells) (even : length cells ≡ length slots) where
  abbrev address : Option Doc → List ℕ
  address o = option_map_or (λ (z : Doc). z.uri) o []

  least_by : (w : Entrant) (d : DocId) → d.0 ≡ w.number → cell_at cells 0 ≡ Some w → Waits slots w → IsLeast (held_in slots numbers) d
  least_by w d number first own =
      let there : doc_in slots d.0 ≡ Some own.doc = ap (doc_in slots) number ∙ own.there in
      record {
        doc = own.doc;
        at = stands_at slots numbers names d own.doc there;
        unfinished = own.unfinished;
        first = λ other h is. elim (cases_lt (rank h.doc.state) 6) [
          | inl low ↦ (
              let k = in_table slots numbers names other h is in
              let v : Entrant = record { rank = rank h.doc.state; number = h.number.0 } in
              let found = first_of_all slots cells all (omega (arith, even)) h.number.0 v (ap (waiting_of h.number.0) k.0 ∙ waiting_low h.number.0 h.doc low) in
              let same : found.0 ≡ w = same_Some found.0 w (sym found.1 ∙ first) in
              let before : is_gt (turn_cmp slots w v) ≡ false = subst (λ u. is_gt (turn_cmp slots u v) ≡ false) same found.2 in
              let here : address_in slots w.number ≡ own.doc.uri = ap address own.there in
              let away : address_in slots h.number.0 ≡ other = ap address k.0 ∙ k.1 in
              precedes own.doc.state h.doc.state own.doc.uri other
              (sym (λ i. is_gt (ordering_then (nat_cmp (own.ranks i) (rank h.doc.state)) (slice_cmp nat_cmp (here i) (away i)))) ∙ before)
              )
          | inr high ↦ by_state (let l = own.unfinished in omega (arith, l, high))
        ];
      }

  pub least_is : (w : Entrant) (d : DocId) → d.0 ≡ w.number → cell_at cells 0 ≡ Some w → IsLeast (held_in slots numbers) d
  least_is w d number first = least_by w d number first (waits_of slots w (entered_waits slots cells all 0 w first))

  pub none_waits : cell_at cells 0 ≡ None → AllValidated (held_in slots numbers)
  none_waits none other h is = elim (cases_lt (rank h.doc.state) 6) [
    | inl low ↦ (
        let k = in_table slots numbers names other h is in
        let v : Entrant = record { rank = rank h.doc.state; number = h.number.0 } in
        let found = first_of_all slots cells all (omega (arith, even)) h.number.0 v (ap (waiting_of h.number.0) k.0 ∙ waiting_low h.number.0 h.doc low) in
        absurd (no_entrant found.0 (sym none ∙ found.1))
        )
    | inr high ↦ validated_at h.doc.state high
  ]
