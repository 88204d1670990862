-- What the references of a document lead to, in the order of what they lead to: which lists say it.
use Rattle.std.specs.Prelude.{◌≡◌, ◌↔◌, ◌<◌, ◌≤◌, ◌==◌, ◌&&◌, ◌||◌, ℕ, Bool, List, Some, Contains, AllPairs, nat_lt}
use Rattle.std.specs.List.{slice_get}
use Rattle.lw_index.specs.declared.parts.Answer.{Answer}
use Rattle.lw_index.specs.declared.parts.Answer.TheVariants.{Found}
use Rattle.lw_index.specs.declared.parts.Target.{Target}
use Rattle.lw_index.specs.declared.refs.uses.Use.{Use}

-- the node that is led to
abbrev pub target_of_use : Use → Target
target_of_use u = record { doc = record { 0 = u.doc }; node = record { 0 = u.node } }

-- the reference has this answer
abbrev pub IsUseOf : List Answer → Use → Type 0
IsUseOf answers u = slice_get answers u.reference ≡ Some (Found (target_of_use u))

-- by documents, by their nodes, and by references
abbrev pub UsePrecedes : Use → Use → Type 0
UsePrecedes a b = (a.doc ≤ b.doc) × (a.doc ≡ b.doc → a.node ≤ b.node) × (a.doc ≡ b.doc → a.node ≡ b.node → a.reference < b.reference)

-- each reference that leads somewhere, once, in order
pub record AreUses (answers : List Answer) (uses : List Use) : Type 0 where
  pub exact : (u : Use) → Contains uses u ↔ IsUseOf answers u
  pub ordered : AllPairs UsePrecedes uses

-- the same in the order of the references
pub record AreUsesInTurn (answers : List Answer) (uses : List Use) : Type 0 where
  pub exact : (u : Use) → Contains uses u ↔ IsUseOf answers u
  pub in_turn : AllPairs (λ (a b : Use). a.reference < b.reference) uses

-- whether its node comes before, or behind, the node of these numbers
abbrev pub is_before : ℕ → ℕ → Use → Bool
is_before doc node u = nat_lt u.doc doc || ((u.doc == doc) && nat_lt u.node node)

abbrev pub is_behind : ℕ → ℕ → Use → Bool
is_behind doc node u = nat_lt doc u.doc || ((doc == u.doc) && nat_lt node u.node)
