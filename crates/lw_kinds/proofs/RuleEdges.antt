-- Edges of one rule after the other.
use Rattle.std.proofs.Common.{◌≡◌, ℕ, ◌+◌, ◌<◌, ◌≤◌, List, length, slice_get, Some, inl, inr, sym, ap, ◌∙◌, subst, arith}
use Rattle.std.proofs.lemmas.Bool.{cases_eq}
use Rattle.std.proofs.lemmas.Option.{same_Some, slice_get_within}
use Rattle.lw_grammar.specs.declared.grammar.Grammar.{Grammar}
use Rattle.lw_grammar.specs.declared.rule.Rule.{Rule}
use Rattle.lw_graph.specs.Walks.{Links, HasEdge}
use Rattle.lw_kinds.specs.Edges.{AddsEdges, AreEdgesBelow, AreEdges, IsNamedSo}

module _ (g : Grammar) (is_so : Rule → List ℕ → Type 0) where
  pub no_edges_below : (graph : Links) → graph.nodes ≡ length g.rules → ((a b : ℕ) → ¬ HasEdge graph a b) → AreEdgesBelow g is_so 0 graph
  no_edges_below graph nodes none = record { nodes = nodes; edges = λ q r. (λ edge. absurd (none q r edge), λ (caller, below, at, named). absurd (omega (arith, below))) }

  pub edges_more : (i : ℕ) (rule : Rule) → slice_get g.rules i ≡ Some rule → (old new : Links) → AreEdgesBelow g is_so i old → AddsEdges i (IsNamedSo g (is_so rule)) old new →
      AreEdgesBelow g is_so (i + 1) new
  edges_more i rule here old new are adds = record { nodes = adds.nodes ∙ are.nodes; edges = λ q r. (forth q r, back q r) }
    where
      forth : (q r : ℕ) → HasEdge new q r → (caller : Rule) × (q < i + 1) × (slice_get g.rules q ≡ Some caller) × IsNamedSo g (is_so caller) r
      forth q r edge = elim ((adds.edges q r).0 edge) [
        | inl before ↦ let was = (are.edges q r).0 before in (was.0, omega (arith, was.1), was.2, was.3)
        | inr now ↦ (rule, omega (arith, now.0), ap (slice_get g.rules) now.0 ∙ here, now.1)
      ]

      back : (q r : ℕ) → (caller : Rule) × (q < i + 1) × (slice_get g.rules q ≡ Some caller) × IsNamedSo g (is_so caller) r → HasEdge new q r
      back q r (caller, below, at, named) = elim (cases_eq q i) [
        | inl same ↦ (adds.edges q r).1 (inr (same, subst (λ x. IsNamedSo g (is_so x) r) (same_Some caller rule (sym at ∙ ap (slice_get g.rules) same ∙ here)) named))
        | inr differs ↦ (adds.edges q r).1 (inl ((are.edges q r).1 (caller, omega (arith, below, differs), at, named)))
      ]

  pub all_edges : (i : ℕ) (graph : Links) → length g.rules ≤ i → AreEdgesBelow g is_so i graph → AreEdges g is_so graph
  all_edges i graph past are = record {
    nodes = are.nodes;
    edges = λ q r. (
      λ edge. let was = (are.edges q r).0 edge in (was.0, was.2, was.3),
      λ (caller, at, named). (are.edges q r).1 (caller, omega (arith, past, slice_get_within g.rules q caller at), at, named),
    );
  }
