-- One way leads outwards from each node.
use Rattle.std.proofs.Common.{ℕ, zero, suc, ◌≡◌, ◌+◌, ◌<◌, List, [], ◌∷◌, Option, Some, None, length, slice_get, refl, sym, ap, subst, ◌∙◌, arith}
use Rattle.std.proofs.lemmas.Option.{same_Some}
use Rattle.lw_base.specs.declared.numbers.NodeId.{NodeId}
use Rattle.lw_tree.specs.declared.node.Node.{Node}
use Rattle.lw_tree.specs.Parts.{Parts}
use Rattle.lw_scoping.specs.Outward.{LeadsOut, outermost, inner, ContainersComeFirst}

module _ (tree : Parts) where
  one_node : (n : ℕ) {a b : Node} → slice_get tree.nodes n ≡ Some a → slice_get tree.nodes n ≡ Some b → a ≡ b
  one_node n {a} {b} is was = same_Some a b (sym is ∙ was)

  not_both : {a b : Node} {c : NodeId} → a ≡ b → a.container ≡ None → b.container ≡ Some c → ⊥
  not_both {a} {b} {c} same none some = differ (sym none ∙ ap (λ (x : Node). x.container) same ∙ some)
    where
      differ : {c : NodeId} → None ≡ Some c → ⊥
      differ e = cc

  one_container : {a b : Node} {c d : ℕ} → a ≡ b → a.container ≡ Some (record { 0 = c }) → b.container ≡ Some (record { 0 = d }) → c ≡ d
  one_container {a} {b} {c} {d} same is was =
      ap (λ (x : NodeId). x.0) (same_Some {A = NodeId} (record { 0 = c }) (record { 0 = d }) (sym is ∙ ap (λ (x : Node). x.container) same ∙ was))

  pub leads_once : {n : ℕ} {path other : List ℕ} → LeadsOut tree n path → LeadsOut tree n other → path ≡ other
  leads_once (outermost at none) (outermost _ _) = refl
  leads_once {n} (outermost at none) (inner c there some more) = absurd (not_both (one_node n at there) none some)
  leads_once {n} (inner c there some more) (outermost at none) = absurd (not_both (one_node n at there) none some)
  leads_once {n} (inner c there some more) (inner {path = path} d at has rest) =
      ap (λ (p : List ℕ). n ∷ p) (leads_once more (subst (λ k. LeadsOut tree k path) (sym (one_container (one_node n there at) some has)) rest))

  module _ (first : ContainersComeFirst tree) where
    node_at : (xs : List Node) (n : ℕ) → n < length xs → (node : Node) × (slice_get xs n ≡ Some node)
    node_at [] n lt = absurd (omega (arith, lt))
    node_at (x ∷ xs) zero lt = (x, refl)
    node_at (x ∷ xs) (suc n) lt = node_at xs n (omega (arith, lt))

    further : (n : ℕ) → n < length tree.nodes → ((c : ℕ) → c < n → (path : List ℕ) × LeadsOut tree c path) → (node : Node) →
        slice_get tree.nodes n ≡ Some node → (above : Option NodeId) → node.container ≡ above → (path : List ℕ) × LeadsOut tree n path
    further n inside lower node at None is = (n ∷ [], outermost at is)
    further n inside lower node at (Some c) is = let (path, more) = lower c.0 (first n c.0 node at is) in (n ∷ path, inner c.0 at is more)

    -- by the nodes before it
    leads_within : (limit n : ℕ) → n < limit → n < length tree.nodes → (path : List ℕ) × LeadsOut tree n path
    leads_within zero n lt inside = absurd (omega (arith, lt))
    leads_within (suc limit) n lt inside =
        let (node, at) = node_at tree.nodes n inside in
        further n inside (λ c before. leads_within limit c (omega (arith, before, lt)) (omega (arith, before, inside))) node at node.container refl

    pub leads_out : (n : ℕ) → n < length tree.nodes → (path : List ℕ) × LeadsOut tree n path
    leads_out n inside = leads_within (n + 1) n (omega arith) inside
