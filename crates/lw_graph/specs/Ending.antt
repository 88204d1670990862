-- What is known of nodes that walks come to an end from, in words of the code.
use Rattle.std.specs.Prelude.{ℕ, ◌≡◌, Contains, length}
use Rattle.lw_graph.specs.declared.front.Front.{Front}
use Rattle.lw_graph.specs.Walks.{Links, HasEdge, HasNode}

-- every walk from the node comes to an end
pub data RunsDry (graph : Links) : ℕ → Type 0 where
  runs_out : {node : ℕ} → ((next : ℕ) → HasEdge graph node next → RunsDry graph next) → RunsDry graph node

-- the nodes that were met are such ones
pub record KnowsEnded (graph : Links) (front : Front) : Type 0 where
  pub size : length front.met.items ≡ graph.nodes
  pub waiting : (n : ℕ) → Contains front.waiting.items n → HasNode front.met.items n
  pub ended : (n : ℕ) → HasNode front.met.items n → RunsDry graph n
