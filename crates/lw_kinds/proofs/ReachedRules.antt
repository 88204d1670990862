-- What is reached in the graph of calls is what can be reached.
use Rattle.std.proofs.Common.{◌≡◌, ℕ, ◌↔◌, [], ◌∷◌, refl, subst, arith}
use Rattle.lw_grammar.specs.declared.grammar.Grammar.{Grammar}
use Rattle.lw_grammar.specs.declared.rule.Rule.{Rule}
use Rattle.lw_grammar.specs.Named.{IsEntry}
use Rattle.lw_grammar.specs.Reached.{IsReached, RuleCalls}
use Rattle.lw_grammar.specs.Reached as reached
use Rattle.lw_grammar.proofs.FirstLemmas.{first_place}
use Rattle.lw_grammar.proofs.Every.{every_of}
use Rattle.lw_graph.specs.Walks.{Links, HasEdge, Walks, stay, IsReachedFrom}
use Rattle.lw_graph.proofs.WalkLemmas.{Walks-push, kept_by_walks}
use Rattle.lw_kinds.specs.Edges.{AreEdges}
use Rattle.lw_kinds.proofs.PassingReads.{at_front}

module _ (g : Grammar) (graph : Links) (are : AreEdges g (RuleCalls g) graph) where
  called_too : (q r : ℕ) → IsReached g q → HasEdge graph q r → IsReached g r
  called_too q r is edge = let by = (are.edges q r).0 edge in reached.called by.0 by.2.2 by.2.0 is by.1 by.2.1 by.2.3

  module _ (start : ℕ) (entry : Rule) (is : IsEntry g start entry) where
    walked : {r : ℕ} → IsReached g r → Walks graph start r
    walked (reached.entry rule was) = subst (Walks graph start) (first_place is was) stay
    walked (reached.called {q} {r} caller rule name before at does means) = Walks-push (walked before) ((are.edges q r).1 (caller, at, (name, does, rule, means)))

    pub reached_from : (r : ℕ) → IsReachedFrom graph (start ∷ []) r ↔ IsReached g r
    reached_from r = (forth, λ can. (start, at_front start [], walked can))
      where
        forth : IsReachedFrom graph (start ∷ []) r → IsReached g r
        forth (other, has, walk) =
            let same : start ≡ other = every_of (λ n. start ≡ n) (start ∷ []) other (refl, tt) has in
            kept_by_walks (IsReached g) called_too (subst (IsReached g) same (reached.entry entry is)) walk

  module _ (none : (r : ℕ) (rule : Rule) → ¬ IsEntry g r rule) where
    never : {r : ℕ} → IsReached g r → ⊥
    never (reached.entry {r} rule is) = none r rule is
    never (reached.called caller rule name before at does means) = never before

    pub reached_never : (r : ℕ) → IsReachedFrom graph [] r ↔ IsReached g r
    reached_never r = (λ (other, (k, inside, is), walk). absurd (omega (arith, inside)), λ can. absurd (never can))
