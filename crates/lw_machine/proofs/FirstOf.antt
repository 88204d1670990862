-- Of two documents one comes before the other, so of those that are held one comes before all: that is the next, and no other is.
use Rattle.std.proofs.Common.{◌≡◌, ◌≢◌, ℕ, ◌<◌, ◌≤◌, List, [], ◌∷◌, Option, Some, None, Ordering, Less, Equal, Greater, inl, inr, ◌⊎◌, sym, refl, ap, ◌∙◌, subst, arith}
use Rattle.std.proofs.lemmas.Bool.{cases_lt}
use Rattle.std.proofs.lemmas.Option.{same_Some}
use Rattle.std.specs.Ordering.{ordering_reverse}
use Rattle.std.specs.Cmp.{alike_right, tied_itself}
use Rattle.std.specs.Cmp.Lexicographic.{nat_list_cmp_total}
use Rattle.std.specs.FinMap.{get, keys}
use Rattle.lw_machine.specs.declared.state.State.{State}
use Rattle.lw_machine.specs.declared.state.State.TheVariants.{Changed, Parsed, IndexedContent, ComputedScopes, Linked, IndexedReferences, Validated}
use Rattle.lw_machine.specs.Documents.{Document, Documents, IsBuilt, rank}
use Rattle.lw_machine.specs.Building.{ComesFirst, by_state, by_address, IsNext}
use Rattle.lw_machine.specs.Laws.{GoesOn}
use Rattle.lw_machine.proofs.Places.{order, tied, Among, first, later, held_among}

not_greater : (a b c : List ℕ) → order a b ≢ Greater → order b c ≢ Greater → order a c ≢ Greater
not_greater a b c p q = by (order a b) (order b c) refl refl
  where
    by : (r s : Ordering) → order a b ≡ r → order b c ≡ s → order a c ≢ Greater
    by Less Less is was above = let e = sym (nat_list_cmp_total.trans a b c is was) ∙ above in cc
    by Less Equal is was above = let e = sym is ∙ alike_right nat_list_cmp_total b c a was ∙ above in cc
    by Equal s is was above = q (sym (nat_list_cmp_total.congr a b c is) ∙ above)
    by Greater s is was above = p is
    by r Greater is was above = q was

not_both : (a b : List ℕ) → order a b ≢ Greater → order b a ≢ Greater → a ≡ b
not_both a b p q = by (order a b) refl
  where
    by : (r : Ordering) → order a b ≡ r → a ≡ b
    by Less is = absurd (q (nat_list_cmp_total.antisymm b a ∙ ap ordering_reverse is))
    by Equal is = tied a b is
    by Greater is = absurd (p is)

-- a state as high as the last is the last
pub validated_at : (s : State) → 6 ≤ rank s → s ≡ Validated
validated_at Changed high = absurd (omega arith)
validated_at Parsed high = absurd (omega arith)
validated_at IndexedContent high = absurd (omega arith)
validated_at ComputedScopes high = absurd (omega arith)
validated_at Linked high = absurd (omega arith)
validated_at IndexedReferences high = absurd (omega arith)
validated_at Validated high = refl

one_first : (a : List ℕ) (d : Document) (b : List ℕ) (e : Document) → ComesFirst a d b e ⊎ ComesFirst b e a d
one_first a d b e = ranked (cases_lt (rank d.state) (rank e.state)) (cases_lt (rank e.state) (rank d.state))
  where
    level : rank d.state ≡ rank e.state → (r : Ordering) → order a b ≡ r → ComesFirst a d b e ⊎ ComesFirst b e a d
    level same Less is = inl (by_address same (λ above. let e = sym is ∙ above in cc))
    level same Equal is = inl (by_address same (λ above. let e = sym is ∙ above in cc))
    level same Greater is = inr (by_address (sym same) (λ above. let e = sym above ∙ nat_list_cmp_total.antisymm b a ∙ ap ordering_reverse is in cc))

    ranked : (rank d.state < rank e.state) ⊎ (rank e.state ≤ rank d.state) → (rank e.state < rank d.state) ⊎ (rank d.state ≤ rank e.state) →
        ComesFirst a d b e ⊎ ComesFirst b e a d
    ranked (inl below) other = inl (by_state below)
    ranked (inr above) (inl below) = inr (by_state below)
    ranked (inr above) (inr below) = level (omega arith) (order a b) refl

comes_itself : (a : List ℕ) (d : Document) (b : List ℕ) (e : Document) → a ≡ b → d ≡ e → ComesFirst a d b e
comes_itself a d b e here same =
    by_address (ap (λ (x : Document). rank x.state) same) (λ above. let e = sym above ∙ ap (order a) (sym here) ∙ tied_itself nat_list_cmp_total a in cc)

then_first : {a b c : List ℕ} {d e f : Document} → ComesFirst a d b e → ComesFirst b e c f → ComesFirst a d c f
then_first (by_state p) (by_state q) = by_state (omega arith)
then_first (by_state p) (by_address q s) = by_state (omega arith)
then_first (by_address p r) (by_state q) = by_state (omega arith)
then_first {a} {b} {c} (by_address p r) (by_address q s) = by_address (p ∙ q) (not_greater a b c r s)

module _ (m : Documents) where
  -- nothing is held at these addresses
  abbrev AreEmpty : List (List ℕ) → Type 0
  AreEmpty addresses = (other : List ℕ) → Among other addresses → get m other ≡ None

  -- this document comes before each that is held at these addresses
  record IsFirstAmong (addresses : List (List ℕ)) (address : List ℕ) (d : Document) : Type 0 where
    held : get m address ≡ Some d
    comes : (other : List ℕ) (e : Document) → Among other addresses → get m other ≡ Some e → ComesFirst address d other e

  abbrev HasFirst : List (List ℕ) → Type 0
  HasFirst addresses = (address : List ℕ) × (d : Document) × IsFirstAmong addresses address d

  same_held : (address : List ℕ) (d e : Document) → get m address ≡ Some d → get m address ≡ Some e → d ≡ e
  same_held address d e p q = same_Some d e (sym p ∙ q)

  none_among : (other : List ℕ) → Among other [] → get m other ≡ None
  none_among other here = elim here [ ]

  still_empty : (a : List ℕ) (rest : List (List ℕ)) → get m a ≡ None → AreEmpty rest → AreEmpty (a ∷ rest)
  still_empty a rest none empty other first = none
  still_empty a rest none empty other (later there) = empty other there

  only_one : (a : List ℕ) (rest : List (List ℕ)) (d : Document) → get m a ≡ Some d → AreEmpty rest → (other : List ℕ) (e : Document) → Among other (a ∷ rest) →
      get m other ≡ Some e → ComesFirst a d other e
  only_one a rest d held empty other e first is = comes_itself a d other e refl (same_held other d e held is)
  only_one a rest d held empty other e (later there) is = absurd (let no = sym (empty other there) ∙ is in cc)

  still_first : (a : List ℕ) (rest : List (List ℕ)) (address : List ℕ) (d : Document) → IsFirstAmong rest address d →
      ((e : Document) → get m a ≡ Some e → ComesFirst address d a e) → (other : List ℕ) (e : Document) → Among other (a ∷ rest) → get m other ≡ Some e →
      ComesFirst address d other e
  still_first a rest address d was before other e first is = before e is
  still_first a rest address d was before other e (later there) is = was.comes other e there is

  now_first : (a : List ℕ) (rest : List (List ℕ)) (d : Document) (address : List ℕ) (f : Document) → get m a ≡ Some d → IsFirstAmong rest address f →
      ComesFirst a d address f → (other : List ℕ) (e : Document) → Among other (a ∷ rest) → get m other ≡ Some e → ComesFirst a d other e
  now_first a rest d address f held was before other e first is = comes_itself a d other e refl (same_held other d e held is)
  now_first a rest d address f held was before other e (later there) is = then_first before (was.comes other e there is)

  with_one : (a : List ℕ) (rest : List (List ℕ)) → AreEmpty rest ⊎ HasFirst rest → (o : Option Document) → get m a ≡ o → AreEmpty (a ∷ rest) ⊎ HasFirst (a ∷ rest)
  with_one a rest (inl empty) None is = inl (still_empty a rest is empty)
  with_one a rest (inl empty) (Some d) is = inr (a, d, record { held = is; comes = only_one a rest d is empty })
  with_one a rest (inr (address, d, was)) None is =
      inr (address, d, record { held = was.held; comes = still_first a rest address d was (λ e at. absurd (let no = sym is ∙ at in cc)) })
  with_one a rest (inr (address, d, was)) (Some e) is = by (one_first address d a e)
    where
      by : ComesFirst address d a e ⊎ ComesFirst a e address d → AreEmpty (a ∷ rest) ⊎ HasFirst (a ∷ rest)
      by (inl before) =
          inr (
            address,
            d,
            record {
              held = was.held;
              comes = still_first a rest address d was (λ f at. subst (λ x. ComesFirst address d a x) (same_held a e f is at) before);
            },
          )
      by (inr before) = inr (a, e, record { held = is; comes = now_first a rest e address d is was before })

  first_among : (addresses : List (List ℕ)) → AreEmpty addresses ⊎ HasFirst addresses
  first_among [] = inl none_among
  first_among (a ∷ rest) = with_one a rest (first_among rest) (get m a) refl

  above_all : (address : List ℕ) (d : Document) (other : List ℕ) (e : Document) → ComesFirst address d other e → 6 ≤ rank d.state → 6 ≤ rank e.state
  above_all address d other e (by_state below) high = omega arith
  above_all address d other e (by_address same before) high = omega arith

  -- two documents that are next are one
  pub one_next : (address : List ℕ) (d : Document) (other : List ℕ) (e : Document) → IsNext m address d → IsNext m other e → (other ≡ address) × (e ≡ d)
  one_next address d other e next also = by (next.first other e also.held) (also.first address d next.held)
    where
      here : other ≡ address → (other ≡ address) × (e ≡ d)
      here same = (same, same_Some e d (sym also.held ∙ ap (get m) same ∙ next.held))

      by : ComesFirst address d other e → ComesFirst other e address d → (other ≡ address) × (e ≡ d)
      by (by_state p) (by_state q) = absurd (omega arith)
      by (by_state p) (by_address q s) = absurd (omega arith)
      by (by_address p r) (by_state q) = absurd (omega arith)
      by (by_address p r) (by_address q s) = here (not_both other address s r)

  -- either every document is validated, or one is next
  pub goes_on : GoesOn m
  goes_on = by (first_among (keys m))
    where
      built : (address : List ℕ) (d : Document) → IsFirstAmong (keys m) address d → 6 ≤ rank d.state → IsBuilt m
      built address d was high other e at = validated_at e.state (above_all address d other e (was.comes other e (held_among m other e at) at) high)

      taken : (address : List ℕ) (d : Document) → IsFirstAmong (keys m) address d → rank d.state < 6 → IsNext m address d
      taken address d was low = record { held = was.held; unfinished = low; first = λ other e at. was.comes other e (held_among m other e at) at }

      by : AreEmpty (keys m) ⊎ HasFirst (keys m) → GoesOn m
      by (inl empty) = inl (λ address d at. absurd (let no = sym (empty address (held_among m address d at)) ∙ at in cc))
      by (inr (address, d, was)) = elim (cases_lt (rank d.state) 6) [
        | inl low ↦ inr (address, d, taken address d was low, λ other e also. one_next address d other e (taken address d was low) also)
        | inr high ↦ inl (built address d was high)
      ]
