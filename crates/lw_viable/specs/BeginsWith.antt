-- What is told of rules by their heads of one kind, and by the flags of those that make nodes.
use Rattle.std.specs.Prelude.{ℕ, ◌≡◌, ◌↔◌, ◌⊎◌, ◌<◌, List, [], ◌∷◌, Some, Bool, false, slice_get}
use Rattle.lw_grammar.specs.declared.rule.Rule.{Rule}
use Rattle.lw_first.specs.declared.heads.head.Head.{Head}
use Rattle.lw_first.specs.Sets.{IsAmongHeads}
use Rattle.lw_viable.specs.EmptyBy.{IsFlagged}
use Rattle.lw_viable.specs.Told.{IsMet}

-- a head has this kind alone, or none
abbrev pub MeetsKind : List Head → ℕ → Type 0
MeetsKind heads k = IsAmongHeads heads [] ⊎ IsAmongHeads heads (k ∷ [])

-- a flag for each set: it has the empty head
abbrev pub TellsEmptyHeads : List (List Head) → List Bool → Type 0
TellsEmptyHeads sets flags = (r : ℕ) (heads : List Head) → slice_get sets r ≡ Some heads → IsFlagged flags r ↔ IsAmongHeads heads []

-- a row for each set: a flag for each of so many kinds
abbrev pub TellsMetKinds : List (List Head) → ℕ → List (List Bool) → Type 0
TellsMetKinds sets kinds rows = (r k : ℕ) (heads : List Head) → slice_get sets r ≡ Some heads → k < kinds → IsMet rows r k ↔ MeetsKind heads k

-- a flag for each rule: it makes nodes and is no fragment
abbrev pub TellsNodes : List Rule → List Bool → List Bool → Type 0
TellsNodes rules nodes flags = (r : ℕ) (rule : Rule) → slice_get rules r ≡ Some rule → IsFlagged flags r ↔ ((rule.is_fragment ≡ false) × IsFlagged nodes r)
