-- Nodes that every walk comes to an end from lie on no circle, and how they are found.
use Rattle.std.proofs.Common.{ℕ, [], ◌∷◌, length, Contains, inl, inr, sym, ap, ◌∙◌, subst}
use Rattle.std.proofs.lemmas.List.Elements.{Contains-append_left}
use Rattle.lw_graph.specs.declared.front.Front.{Front}
use Rattle.lw_graph.specs.Ending.{RunsDry, runs_out, KnowsEnded}
use Rattle.lw_graph.specs.Growth.{Gains}
use Rattle.lw_graph.specs.Walks.{Links, HasEdge, Walks, stay, go, GoesRound, HasNode}
use Rattle.lw_graph.proofs.Growing.{Pops, in_one}
use Rattle.lw_graph.proofs.WalkLemmas.{Walks-push}

module _ (graph : Links) where
  -- a circle goes through each node of it
  goes_on_round : {node next : ℕ} → HasEdge graph node next → Walks graph next node → GoesRound graph next
  goes_on_round {node} edge stay = (node, edge, stay)
  goes_on_round edge (go {b} first rest) = (b, first, Walks-push rest edge)

  pub not_round : {node : ℕ} → RunsDry graph node → GoesRound graph node → ⊥
  not_round (runs_out ends) (next, edge, walk) = not_round (ends next edge) (goes_on_round edge walk)

  -- one fewer waits
  pub knows_fewer : (node : ℕ) (old mid : Front) → KnowsEnded graph old → Pops node old mid → KnowsEnded graph mid
  knows_fewer node old mid knows pops = record {
    size = ap (λ m. length m.items) pops.met ∙ knows.size;
    waiting = λ n waits. subst (λ m. HasNode m.items n) (sym pops.met)
        (knows.waiting n (subst (λ w. Contains w n) (sym pops.waiting) (Contains-append_left mid.waiting.items (node ∷ []) n waits)));
    ended = λ n has. knows.ended n (subst (λ m. HasNode m.items n) pops.met has);
  }

  -- one node more, all of whose successors were met
  pub knows_more : (node : ℕ) (old new : Front) → KnowsEnded graph old → ((next : ℕ) → HasEdge graph node next → HasNode old.met.items next) → Gains (node ∷ []) old new →
      KnowsEnded graph new
  knows_more node old new knows all gains = record {
    size = gains.size ∙ knows.size;
    waiting = λ n waits. elim (gains.waiting n waits) [
      | inl was ↦ gains.keeps n (knows.waiting n was)
      | inr now ↦ gains.met n now
    ];
    ended = λ n has. elim (gains.only n has) [
      | inl was ↦ knows.ended n was
      | inr now ↦ subst (RunsDry graph) (in_one node now.0) (runs_out (λ next edge. knows.ended next (all next edge)))
    ];
  }
