-- The document that the next build step takes up: of those that are not validated the one of the least state, and of these the one of the
-- least address by its bytes.
-- Held against Langium's document lifecycle: a build takes all documents through the states in their order.
use Rattle.std.specs.Prelude.{ℕ, ◌≡◌, ◌≢◌, ◌<◌, List, Some}
use Rattle.std.specs.Cmp.Lexicographic.{slice_cmp}
use Rattle.std.specs.FinMap.{get}
use Rattle.std.specs.Option.{option_map}
use Rattle.std.specs.Ordering.{nat_cmp}
use Rattle.std.specs.declared.cmp.Ordering.TheVariants.{Greater}
use Rattle.lw_base.specs.declared.numbers.DocId.{DocId}
use Rattle.lw_docs.specs.declared.doc.Doc.{Doc}
use Rattle.lw_machine.specs.declared.state.State.{State}
use Rattle.lw_machine.specs.declared.state.State.TheVariants.{Validated}
use Rattle.lw_machine.specs.Documents.{Document, Documents, rank}
use Rattle.lw_docs.specs.Documents.{Numbered, ByAddress, IsAt}

-- what has one state and address comes before what has others
pub data Precedes (state : State) (address : List ℕ) (later : State) (other : List ℕ) : Type 0 where
  by_state : rank state < rank later → Precedes state address later other
  by_address : rank state ≡ rank later → slice_cmp nat_cmp address other ≢ Greater → Precedes state address later other

pub record IsLeast (m : ByAddress) (d : DocId) : Type 0 where
  pub doc : Doc
  pub at : IsAt m d doc
  pub unfinished : rank doc.state < 6
  pub first : (other : List ℕ) (held : Numbered) → get m other ≡ Some held → Precedes doc.state doc.uri held.doc.state other

abbrev pub AllValidated : ByAddress → Type 0
AllValidated m = (address : List ℕ) (held : Numbered) → get m address ≡ Some held → held.doc.state ≡ Validated

-- documents of the machine that have the same states at the same addresses
abbrev pub HaveSameStates : ByAddress → Documents → Type 0
HaveSameStates m n = (address : List ℕ) →
    option_map (λ (h : Numbered). h.doc.state) (get m address) ≡ option_map (λ (d : Document). d.state) (get n address)
