-- Graphs of rules, and the edges that are put into them, in words of the code.
use Rattle.std.specs.Prelude.{ℕ, ◌≡◌, ◌<◌, ◌⊎◌, ◌↔◌, List, Some, length, slice_get}
use Rattle.lw_grammar.specs.declared.grammar.Grammar.{Grammar}
use Rattle.lw_grammar.specs.declared.rule.Rule.{Rule}
use Rattle.lw_grammar.specs.Leaves as leaf
use Rattle.lw_grammar.specs.Leaves.{Leaf}
use Rattle.lw_grammar.specs.Named.{IsRule}
use Rattle.lw_faults.specs.Reads.{ValueLeads}
use Rattle.lw_graph.specs.Walks.{Links, HasEdge}

-- some item in front of this place passes, where its own place may count
abbrev pub SomeBelow : {X : Type 0} → (ℕ → X → Type 0) → List X → ℕ → Type 0
SomeBelow {X = X} passes xs i = (k : ℕ) × (x : X) × (k < i) × (slice_get xs k ≡ Some x) × passes k x

-- each item in front of this place passes
abbrev pub EachBelow : {X : Type 0} → (X → Type 0) → List X → ℕ → Type 0
EachBelow {X = X} passes xs i = (k : ℕ) (x : X) → k < i → slice_get xs k ≡ Some x → passes x

-- exactly the edges from this node to those that are so were put in
pub record AddsEdges (from : ℕ) (is_so : ℕ → Type 0) (old new : Links) : Type 0 where
  pub nodes : new.nodes ≡ old.nodes
  pub edges : (a b : ℕ) → HasEdge new a b ↔ (HasEdge old a b ⊎ ((a ≡ from) × is_so b))

module _ (g : Grammar) where
  -- the rule of this number is meant by a name that is so
  abbrev pub IsNamedSo : (List ℕ → Type 0) → ℕ → Type 0
  IsNamedSo is_so r = (name : List ℕ) × is_so name × (rule : Rule) × IsRule g name r rule

  -- a leaf calls the rule or terminal of this name, assigned or not
  abbrev pub CallsAtLeaf : Leaf → List ℕ → Type 0
  CallsAtLeaf (leaf.Call called s) name = name ≡ called
  CallsAtLeaf (leaf.Assign p op v s) name = ValueLeads g v name
  CallsAtLeaf _ name = ⊥

  -- edges lead from each rule in front of this place to those that are meant by names that are so of it
  pub record AreEdgesBelow (is_so : Rule → List ℕ → Type 0) (i : ℕ) (graph : Links) : Type 0 where
    pub nodes : graph.nodes ≡ length g.rules
    pub edges : (q r : ℕ) → HasEdge graph q r ↔ ((caller : Rule) × (q < i) × (slice_get g.rules q ≡ Some caller) × IsNamedSo (is_so caller) r)

  -- and so they do from all rules
  pub record AreEdges (is_so : Rule → List ℕ → Type 0) (graph : Links) : Type 0 where
    pub nodes : graph.nodes ≡ length g.rules
    pub edges : (q r : ℕ) → HasEdge graph q r ↔ ((caller : Rule) × (slice_get g.rules q ≡ Some caller) × IsNamedSo (is_so caller) r)
