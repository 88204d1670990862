-- A directed graph, and the walks along its edges: reachability and circles, as graph theory has them.
use Rattle.std.specs.Prelude.{ℕ, List, [], Bool, false, IsTrue, Contains, slice_index_or}

-- how many nodes there are, which are numbered from zero, and by node where edges lead from it
pub record Links : Type 0 where
  pub nodes : ℕ
  pub successors : List (List ℕ)

-- the nodes that edges lead to from this one
abbrev pub successors_of : Links → ℕ → List ℕ
successors_of graph node = slice_index_or graph.successors node []

-- an edge leads from the one node to the other
abbrev pub HasEdge : Links → ℕ → ℕ → Type 0
HasEdge graph from to = Contains (successors_of graph from) to

-- edges lead from the one node to the other, over nodes between or at once; to the node itself none need to
pub data Walks (graph : Links) : ℕ → ℕ → Type 0 where
  stay : {a : ℕ} → Walks graph a a
  go : {a b c : ℕ} → HasEdge graph a b → Walks graph b c → Walks graph a c

-- a walk of one edge or more leads from the node back to it
abbrev pub GoesRound : Links → ℕ → Type 0
GoesRound graph node = (next : ℕ) × HasEdge graph node next × Walks graph next node

-- a walk leads to the node from one of these
abbrev pub IsReachedFrom : Links → List ℕ → ℕ → Type 0
IsReachedFrom graph starts node = (start : ℕ) × Contains starts start × Walks graph start node

-- a set of nodes has this one: a flag by node says so, and there is none past the last
abbrev pub HasNode : List Bool → ℕ → Type 0
HasNode flags node = IsTrue (slice_index_or flags node false)
