-- What makes rules make nodes, in words of the code.
use Rattle.std.specs.Prelude.{ℕ, ◌≡◌, ◌<◌, ◌↔◌, List, Bool, true, Some, length, slice_get, Contains}
use Rattle.lw_grammar.specs.declared.grammar.Grammar.{Grammar}
use Rattle.lw_grammar.specs.declared.rule.Rule.{Rule}
use Rattle.lw_grammar.specs.Leaves.{Leaf, Call, Assign, Act, leaves}
use Rattle.lw_grammar.specs.Named.{IsRule}
use Rattle.lw_graph.specs.Walks.{HasEdge, HasNode}
use Rattle.lw_numbers.specs.declared.subtypes.nodes.Makers.{Makers}
use Rattle.lw_numbers.specs.Lists.{SomeAt, Joins, PutsEdges}

-- an assignment or an action
abbrev pub MakesOne : Leaf → Type 0
MakesOne (Assign p op v s) = Unit {0}
MakesOne (Act a) = Unit {0}
MakesOne _ = ⊥

-- these edges and starts were put in
pub record PutsMakers (edges : ℕ → ℕ → Type 0) (starts : ℕ → Type 0) (old new : Makers) : Type 0 where
  pub edges_put : PutsEdges edges old.callers new.callers
  pub starts_put : Joins starts (Contains old.starts.items) (Contains new.starts.items)

-- the first so many nodes, each with whether it is in the set
pub record Shows (met : List Bool) (count : ℕ) (flags : List Bool) : Type 0 where
  pub all : length flags ≡ count
  pub each : (n : ℕ) → n < count → HasNode met n ↔ (slice_get flags n ≡ Some true)

module _ (g : Grammar) where
  -- the leaf calls the rule of this number
  abbrev pub LeafCalls : Leaf → ℕ → Type 0
  LeafCalls (Call name s) q = (called : Rule) × IsRule g name q called
  LeafCalls _ q = ⊥

  -- what a leaf of the rule of this number puts in
  abbrev pub PutsLeaf : ℕ → Leaf → Makers → Makers → Type 0
  PutsLeaf rule leaf = PutsMakers (λ from to. LeafCalls leaf from × (to ≡ rule)) (λ r. MakesOne leaf × (r ≡ rule))

  abbrev pub LeavesCall : ℕ → List Leaf → ℕ → ℕ → Type 0
  LeavesCall rule ls from to = SomeAt ls (λ k leaf. LeafCalls leaf from × (to ≡ rule))

  abbrev pub LeavesMake : ℕ → List Leaf → ℕ → Type 0
  LeavesMake rule ls r = SomeAt ls (λ k leaf. MakesOne leaf × (r ≡ rule))

  abbrev pub PutsLeaves : ℕ → List Leaf → Makers → Makers → Type 0
  PutsLeaves rule ls = PutsMakers (LeavesCall rule ls) (LeavesMake rule ls)

  -- what makes the grammar's rules make nodes
  pub record AreMakers (makers : Makers) : Type 0 where
    pub nodes : makers.callers.nodes ≡ length g.rules
    pub edges : (from to : ℕ) → HasEdge makers.callers from to ↔ SomeAt g.rules (λ k rule. LeavesCall k (leaves rule.body) from to)
    pub starts : (r : ℕ) → Contains makers.starts.items r ↔ SomeAt g.rules (λ k rule. LeavesMake k (leaves rule.body) r)
