-- What a row leads to: what its first elements lead to, as far as those before read nothing.
use Rattle.std.proofs.Common.{◌≡◌, ℕ, zero, suc, ◌+◌, ◌<◌, ◌≤◌, ◌↔◌, List, [], ◌∷◌, length, slice_get, Some, refl, sym, subst, arith, inl, inr}
use Rattle.std.proofs.lemmas.Bool.{cases_lt}
use Rattle.std.proofs.lemmas.Option.{none-some, same_Some, slice_get_within}
use Rattle.lw_grammar.specs.declared.grammar.Grammar.{Grammar}
use Rattle.lw_grammar.specs.declared.rule.Element.{Element}
use Rattle.lw_faults.specs.Reads.{MayRead, Leads, LeadsAll}
use Rattle.lw_faults.specs.Reads as read
use Rattle.lw_kinds.specs.Edges.{SomeBelow, EachBelow, IsNamedSo}

module _ (g : Grammar) where
  abbrev Nothing : Element → Type 0
  Nothing e = MayRead g e 0

  -- an element of the row leads to it, and those before read nothing
  abbrev LeadsThere : List Element → List ℕ → Type 0
  LeadsThere es name = (k : ℕ) × (e : Element) × (slice_get es k ≡ Some e) × Leads g e name × EachBelow Nothing es k

  row_there : {es : List Element} {name : List ℕ} → LeadsAll g es name → LeadsThere es name
  row_there (read.first {e} does) = (0, e, refl, does, λ j y below. absurd (omega (arith, below)))
  row_there (read.later {e} {es} none others) = by (row_there others)
    where
      by : {name : List ℕ} → LeadsThere es name → LeadsThere (e ∷ es) name
      by (k, x, there, does, all) = (suc k, x, there, does, before)
        where
          before : EachBelow Nothing (e ∷ es) (suc k)
          before zero y below at = subst Nothing (same_Some e y at) none
          before (suc j) y below at = all j y (omega (arith, below)) at

  there_row : (es : List Element) {name : List ℕ} (k : ℕ) (e : Element) → slice_get es k ≡ Some e → Leads g e name → EachBelow Nothing es k → LeadsAll g es name
  there_row [] k e there does all = absurd (none-some e there)
  there_row (x ∷ es) {name} zero e there does all = read.first (subst (λ y. Leads g y name) (sym (same_Some x e there)) does)
  there_row (x ∷ es) (suc k) e there does all =
      read.later (all 0 x (omega arith) refl) (there_row es k e there does (λ j y below at. all (suc j) y (omega (arith, below)) at))

  each_before : (es : List Element) (i k : ℕ) → k ≤ i → EachBelow Nothing es i → EachBelow Nothing es k
  each_before es i k le all j y below at = all j y (omega (arith, below, le)) at

  module _ (es : List Element) (b : ℕ) where
    abbrev SoLeads : ℕ → Element → Type 0
    SoLeads k e = IsNamedSo g (Leads g e) b

    row_to : (n : ℕ) → ((k : ℕ) (e : Element) → k < n → slice_get es k ≡ Some e → EachBelow Nothing es k) →
        ((k : ℕ) (e : Element) → slice_get es k ≡ Some e → EachBelow Nothing es k → k < n) → SomeBelow SoLeads es n ↔ IsNamedSo g (LeadsAll g es) b
    row_to n before stops = (forth, back)
      where
        forth : SomeBelow SoLeads es n → IsNamedSo g (LeadsAll g es) b
        forth (k, e, below, there, (name, does, rule, means)) = (name, there_row es k e there does (before k e below there), rule, means)

        back : IsNamedSo g (LeadsAll g es) b → SomeBelow SoLeads es n
        back (name, does, rule, means) =
            let found = row_there does in (found.0, found.1, stops found.0 found.1 found.2 found.4, found.2, (name, found.3, rule, means))

    -- to its end
    pub row_ended : (i : ℕ) → length es ≤ i → EachBelow Nothing es i → SomeBelow SoLeads es i ↔ IsNamedSo g (LeadsAll g es) b
    row_ended i past all = row_to i (λ k e below there. each_before es i k (omega (arith, below)) all) (λ k e there _. omega (arith, past, slice_get_within es k e there))

    -- to an element that reads something
    pub row_stopped : (i : ℕ) (e : Element) → slice_get es i ≡ Some e → EachBelow Nothing es i → (Nothing e → ⊥) → SomeBelow SoLeads es (i + 1) ↔ IsNamedSo g (LeadsAll g es) b
    row_stopped i e here all not = row_to (i + 1) (λ k x below there. each_before es i k (omega (arith, below)) all) stops
      where
        stops : (k : ℕ) (x : Element) → slice_get es k ≡ Some x → EachBelow Nothing es k → k < i + 1
        stops k x there each = elim (cases_lt k (i + 1)) [
          | inl below ↦ below
          | inr past ↦ absurd (not (each i e (omega (arith, past)) here))
        ]
