-- What becomes of references as the node that they stand in is finished: each is given the node's place.
use Rattle.std.specs.Prelude.{ℕ, ◌<◌, List, [], ◌∷◌, slice_index_or, slice_set}
use Rattle.lw_base.specs.declared.numbers.NodeId.{NodeId}
use Rattle.lw_base.specs.declared.numbers.PropId.{PropId}
use Rattle.lw_tree.specs.declared.node.Reference.{Reference}
use Rattle.lw_tree.specs.declared.node.Value.{Value}
use Rattle.lw_tree.specs.declared.node.Value.TheVariants.{Refers}
use Rattle.lw_builder.specs.Contents.{nobody}

abbrev pub with_owner : NodeId → Reference → Reference
with_owner own r = record r { owner = own }

abbrev pub pointless : Reference
pointless = record { owner = nobody; prop = record { 0 = 0 }; want = record { 0 = 0 }; name = []; span = record { start = 0; end = 0 } }

unfoldable pub claimed : NodeId → ℕ → List Reference → List Reference
claimed own k refs = slice_set refs k (with_owner own (slice_index_or refs k pointless))

-- the references among these values given to the node `own`, one after the other
abbrev pub claims : NodeId → Value → List Reference → List Reference
claims own (Refers number) refs = claimed own number.0 refs
claims own _ refs = refs

abbrev pub claims_all : NodeId → List (PropId × Value) → List Reference → List Reference
claims_all own [] refs = refs
claims_all own (v ∷ vs) refs = claims_all own vs (claims own v.1 refs)

-- the references among these values are of the first n
abbrev pub IsClaimable : ℕ → Value → Type 0
IsClaimable n (Refers number) = number.0 < n
IsClaimable n _ = Unit {0}

abbrev pub AreClaimable : ℕ → List (PropId × Value) → Type 0
AreClaimable n [] = Unit {0}
AreClaimable n (v ∷ vs) = IsClaimable n v.1 × AreClaimable n vs
