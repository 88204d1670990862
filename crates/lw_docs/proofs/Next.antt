-- The least document is the next of the machine.
use Rattle.std.proofs.Common.{◌≡◌, ℕ, ◌<◌, List, Option, Some, None, refl, sym, ap, subst, ◌∙◌}
use Rattle.std.specs.FinMap.{get}
use Rattle.std.specs.Option.{option_map}
use Rattle.std.proofs.lemmas.Option.{same_Some}
use Rattle.lw_base.specs.declared.numbers.DocId.{DocId}
use Rattle.lw_machine.specs.Building.{ComesFirst, IsNext}
use Rattle.lw_machine.specs.Building as machine
use Rattle.lw_machine.specs.Documents.{Document, Documents, IsBuilt, rank}
use Rattle.lw_machine.specs.declared.state.State.{State}
use Rattle.lw_docs.specs.Documents.{Numbered, ByAddress}
use Rattle.lw_docs.specs.Least.{Precedes, by_state, by_address, IsLeast, AllValidated, HaveSameStates}

no_state : (s : State) → None ≡ Some s → ⊥
no_state s e = cc

-- where one of two has a value with a state, the other has one with the same
module _ {A B : Type 0} (f : A → State) (g : B → State) where
  other_has : (a : Option A) (b : Option B) → option_map f a ≡ option_map g b → (x : A) → a ≡ Some x → (y : B) × (b ≡ Some y) × (g y ≡ f x)
  other_has a None same x is = absurd (no_state (f x) (sym same ∙ ap (option_map f) is))
  other_has a (Some y) same x is = (y, refl, same_Some (g y) (f x) (sym same ∙ ap (option_map f) is))

comes_first : (s t : State) (a b : List ℕ) (d e : Document) → d.state ≡ s → e.state ≡ t → Precedes s a t b → ComesFirst a d b e
comes_first s t a b d e own other (by_state low) = machine.by_state (subst (λ r. rank r < rank e.state) (sym own) (subst (λ r. rank s < rank r) (sym other) low))
comes_first s t a b d e own other (by_address same order) = machine.by_address (ap rank own ∙ same ∙ sym (ap rank other)) order

pub next_of : (m : ByAddress) (n : Documents) → HaveSameStates m n → (d : DocId) (least : IsLeast m d) → (e : Document) × IsNext n least.doc.uri e
next_of m n same d least =
    let own = other_has (λ (h : Numbered). h.doc.state) (λ (e : Document). e.state) (get m least.doc.uri) (get n least.doc.uri) (same least.doc.uri) _ least.at in (
      own.0,
      record {
        held = own.1;
        unfinished = subst (λ s. rank s < 6) (sym own.2) least.unfinished;
        first = λ other e is.
            let h = other_has (λ (e : Document). e.state) (λ (h : Numbered). h.doc.state) (get n other) (get m other) (sym (same other)) e is in
            comes_first least.doc.state h.0.doc.state least.doc.uri other own.0 e own.2 (sym h.2) (least.first other h.0 h.1);
      },
    )

pub built_of : (m : ByAddress) (n : Documents) → HaveSameStates m n → AllValidated m → IsBuilt n
built_of m n same all address e is =
    let h = other_has (λ (e : Document). e.state) (λ (h : Numbered). h.doc.state) (get n address) (get m address) (sym (same address)) e is in
    sym h.2 ∙ all address h.0 h.1
