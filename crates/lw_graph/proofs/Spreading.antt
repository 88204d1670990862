-- How far a search has come, and that it finds what is reached.
use Rattle.std.proofs.Common.{◌≡◌, ℕ, List, [], ◌∷◌, length, Contains, ◌⊎◌, inl, inr, sym, ap, ◌∙◌, subst, ◌↔◌}
use Rattle.std.proofs.lemmas.List.Elements.{Contains-append_left, Contains-push_cases}
use Rattle.lw_graph.specs.declared.front.Front.{Front}
use Rattle.lw_graph.specs.Growth.{Gains}
use Rattle.lw_graph.specs.Walks.{Links, HasEdge, stay, IsReachedFrom, HasNode, successors_of}
use Rattle.lw_graph.proofs.Growing.{Pops, popped_met, not_in_none}
use Rattle.lw_graph.proofs.WalkLemmas.{Walks-push, kept_by_walks}

module _ (graph : Links) (starts : List ℕ) where
  -- all that was met is reached, and what does not wait has its successors met
  pub record IsSpreading (front : Front) : Type 0 where
    pub size : length front.met.items ≡ graph.nodes
    pub waiting : (n : ℕ) → Contains front.waiting.items n → HasNode front.met.items n
    pub reached : (n : ℕ) → HasNode front.met.items n → IsReachedFrom graph starts n
    pub starts_met : (n : ℕ) → Contains starts n → HasNode front.met.items n
    pub goes_on : (a : ℕ) → HasNode front.met.items a → Contains front.waiting.items a ⊎ ((b : ℕ) → HasEdge graph a b → HasNode front.met.items b)

  pub spreading_begins : (none front : Front) → length none.met.items ≡ graph.nodes → ((n : ℕ) → HasNode none.met.items n → ⊥) → none.waiting.items ≡ [] →
      Gains starts none front → IsSpreading front
  spreading_begins none front size no_node no_waiting gains = record {
    size = gains.size ∙ size;
    waiting = λ n waits. elim (gains.waiting n waits) [
      | inl before ↦ absurd (not_in_none (subst (λ w. Contains w n) no_waiting before))
      | inr new ↦ gains.met n new
    ];
    reached = λ n has. elim (gains.only n has) [
      | inl before ↦ absurd (no_node n before)
      | inr new ↦ (n, new.0, stay)
    ];
    starts_met = gains.met;
    goes_on = λ a has. elim (gains.only a has) [
      | inl before ↦ absurd (no_node a before)
      | inr new ↦ inl new.1
    ];
  }

  module _ (node : ℕ) (old mid new : Front) (spreading : IsSpreading old) (pops : Pops node old mid) (gains : Gains (successors_of graph node) mid new) where
    waited : (n : ℕ) → Contains mid.waiting.items n → Contains old.waiting.items n
    waited n waits = subst (λ w. Contains w n) (sym pops.waiting) (Contains-append_left mid.waiting.items (node ∷ []) n waits)

    taken : HasNode old.met.items node
    taken = popped_met node old mid pops spreading.waiting

    stays : (n : ℕ) → HasNode old.met.items n → HasNode new.met.items n
    stays n has = gains.keeps n (subst (λ m. HasNode m.items n) (sym pops.met) has)

    before : (n : ℕ) → HasNode mid.met.items n → HasNode old.met.items n
    before n has = subst (λ m. HasNode m.items n) pops.met has

    pub spreading_goes_on : IsSpreading new
    spreading_goes_on = record {
      size = gains.size ∙ ap (λ m. length m.items) pops.met ∙ spreading.size;
      waiting = λ n waits. elim (gains.waiting n waits) [
        | inl was ↦ stays n (spreading.waiting n (waited n was))
        | inr next ↦ gains.met n next
      ];
      reached = λ n has. elim (gains.only n has) [
        | inl was ↦ spreading.reached n (before n was)
        | inr next ↦ one_further n next.0 (spreading.reached node taken)
      ];
      starts_met = λ n start. stays n (spreading.starts_met n start);
      goes_on = λ a has. elim (gains.only a has) [
        | inl was ↦ elim (spreading.goes_on a (before a was)) [
          | inl waits ↦ elim (Contains-push_cases mid.waiting.items node a (subst (λ w. Contains w a) pops.waiting waits)) [
            | inl still ↦ inl (gains.waits a still)
            | inr same ↦ inr (λ b edge. gains.met b (subst (λ m. HasEdge graph m b) (sym same) edge))
          ]
          | inr on ↦ inr (λ b edge. stays b (on b edge))
        ]
        | inr next ↦ inl next.1
      ];
    }
      where
        one_further : (n : ℕ) → HasEdge graph node n → IsReachedFrom graph starts node → IsReachedFrom graph starts n
        one_further n edge (start, among, walk) = (start, among, Walks-push walk edge)

  pub spreading_ends : (front : Front) → IsSpreading front → front.waiting.items ≡ [] → (n : ℕ) → HasNode front.met.items n ↔ IsReachedFrom graph starts n
  spreading_ends front spreading over n = (spreading.reached n, λ (start, among, walk). kept_by_walks (HasNode front.met.items) goes_on (spreading.starts_met start among) walk)
    where
      goes_on : (a b : ℕ) → HasNode front.met.items a → HasEdge graph a b → HasNode front.met.items b
      goes_on a b has edge = elim (spreading.goes_on a has) [
        | inl waits ↦ absurd (not_in_none (subst (λ w. Contains w a) over waits))
        | inr on ↦ on b edge
      ]
