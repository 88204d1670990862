-- A rule comes to itself before any token where it lies on a circle of the graph of leads.
use Rattle.std.proofs.Common.{ℕ, ◌↔◌}
use Rattle.lw_grammar.specs.declared.grammar.Grammar.{Grammar}
use Rattle.lw_grammar.specs.declared.rule.Rule.{Rule}
use Rattle.lw_graph.specs.Walks.{Links, HasEdge, Walks, stay, go, GoesRound}
use Rattle.lw_graph.proofs.WalkLemmas.{Walks-trans}
use Rattle.lw_faults.specs.Reads.{Leads, ComesFirstTo, directly, over}
use Rattle.lw_kinds.specs.Edges.{AreEdges}

module _ (g : Grammar) (graph : Links) (are : AreEdges g (λ (caller : Rule). Leads g caller.body) graph) where
  comes_by : {q r : ℕ} → HasEdge graph q r → ComesFirstTo g q r
  comes_by {q} {r} edge = let by = (are.edges q r).0 edge in directly by.0 by.2.2 by.2.0 by.1 by.2.1 by.2.3

  comes_along : {p q r : ℕ} → ComesFirstTo g p q → Walks graph q r → ComesFirstTo g p r
  comes_along comes stay = comes
  comes_along comes (go edge rest) = comes_along (over comes (comes_by edge)) rest

  walks_first : {q r : ℕ} → ComesFirstTo g q r → (next : ℕ) × HasEdge graph q next × Walks graph next r
  walks_first (directly {q} {r} caller rule name at does means) = (r, (are.edges q r).1 (caller, at, (name, does, rule, means)), stay)
  walks_first (over first second) =
      let one = walks_first first in let two = walks_first second in (one.0, one.1, Walks-trans one.2 (go two.1 two.2))

  pub comes_round : (r : ℕ) → GoesRound graph r ↔ ComesFirstTo g r r
  comes_round r = (λ (next, edge, walk). comes_along (comes_by edge) walk, λ comes. walks_first comes)
