-- Walks over the edges of a graph.
use Rattle.std.proofs.Common.{ℕ}
use Rattle.lw_graph.specs.Walks.{Links, HasEdge, Walks, stay, go}

module _ {graph : Links} where
  pub Walks-trans : {a b c : ℕ} → Walks graph a b → Walks graph b c → Walks graph a c
  Walks-trans stay walk = walk
  Walks-trans (go edge rest) walk = go edge (Walks-trans rest walk)

  -- one more edge at the end
  pub Walks-push : {a b c : ℕ} → Walks graph a b → HasEdge graph b c → Walks graph a c
  Walks-push walk edge = Walks-trans walk (go edge stay)

  -- what edges keep holds of all that is walked to
  pub kept_by_walks : (R : ℕ → Type 0) → ((a b : ℕ) → R a → HasEdge graph a b → R b) → {a b : ℕ} → R a → Walks graph a b → R b
  kept_by_walks R keeps holds stay = holds
  kept_by_walks R keeps holds (go {a} {b} edge rest) = kept_by_walks R keeps (keeps a b holds edge) rest
