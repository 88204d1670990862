-- A document, and the documents of a workspace by address.
-- Held against Langium's document lifecycle, "Document states".
use Rattle.std.specs.Prelude.{ℕ, ℤ, ◌≡◌, List, Bool, Option, Some, option_and_then, option_map}
use Rattle.std.specs.Cmp.Lexicographic.{slice_cmp}
use Rattle.std.specs.FinMap.{FinMap, get}
use Rattle.std.specs.Ordering.{nat_cmp}
use Rattle.lw_text.specs.declared.shown.Shown.{Shown}
use Rattle.lw_link_rules.specs.Links.{Texts}
use Rattle.lw_machine.specs.declared.state.State.{State}
use Rattle.lw_machine.specs.declared.state.State.TheVariants.{Changed, Parsed, IndexedContent, ComputedScopes, Linked, IndexedReferences, Validated}

-- The present text, its version where it has one, whether an editor has it open, its state, the text that others see where
-- there is one, and the list of diagnostics that was published last where there is one.
pub record Document : Type 0 where
  pub text : List ℕ
  pub version : Option ℤ
  pub is_open : Bool
  pub state : State
  pub shown : Option (List ℕ)
  pub published : Option (List Shown)

-- the documents by address; addresses are compared by their bytes
abbrev pub Documents : Type 0
Documents = FinMap (slice_cmp nat_cmp) Document

-- the shown text at each address
abbrev pub shown_texts : Documents → Texts
shown_texts m address = option_and_then (λ d. d.shown) (get m address)

-- the present text at each address
abbrev pub present_texts : Documents → Texts
present_texts m address = option_map (λ d. d.text) (get m address)

-- the place of a state in their order
abbrev pub rank : State → ℕ
rank Changed = 0
rank Parsed = 1
rank IndexedContent = 2
rank ComputedScopes = 3
rank Linked = 4
rank IndexedReferences = 5
rank Validated = 6

-- the next state
abbrev pub next : State → State
next Changed = Parsed
next Parsed = IndexedContent
next IndexedContent = ComputedScopes
next ComputedScopes = Linked
next Linked = IndexedReferences
next IndexedReferences = Validated
next Validated = Validated

-- every document is validated
abbrev pub IsBuilt : Documents → Type 0
IsBuilt m = (address : List ℕ) (d : Document) → get m address ≡ Some d → d.state ≡ Validated
