-- Rules that are meant by names.
use Rattle.std.proofs.Common.{◌≡◌, ℕ, ◌↔◌, List, Option, Result, OnOk, Contains, refl, sym, subst}
use Rattle.std.proofs.lemmas.Result.{on_ok_weaker}
use Rattle.lw_grammar.specs.declared.grammar.Grammar.{Grammar}
use Rattle.lw_grammar.specs.declared.rule.Rule.{Rule}
use Rattle.lw_grammar.specs.Named.{IsRule}
use Rattle.lw_grammar.proofs.FirstLemmas.{first_place}
use Rattle.lw_kinds.specs.Crossing.{IsReadBy}
use Rattle.lw_graph.specs.Walks.{Links}
use Rattle.lw_kinds.specs.Edges.{AddsEdges, IsNamedSo}
use Rattle.lw_kinds.proofs.EdgeLemmas.{AddsEdges-none, AddsEdges-same}
use Rattle.lw_kinds.proofs.OneName.{one_reads}

module _ (g : Grammar) where
  module _ (name : List ℕ) where
    abbrev pub IsThisName : List ℕ → Type 0
    IsThisName called = called ≡ name

    pub named_one : (r : ℕ) → (rule : Rule) × IsRule g name r rule → (b : ℕ) → (b ≡ r) ↔ IsNamedSo g IsThisName b
    named_one r (rule, is) b = (
      λ same. (name, refl, rule, subst (λ n. IsRule g name n rule) (sym same) is),
      λ (called, same, other, was). first_place (subst (λ n. IsRule g n b other) same was).first is.first,
    )

  pub named_same : (one other : List ℕ → Type 0) → ((name : List ℕ) → one name ↔ other name) → (b : ℕ) → IsNamedSo g one b ↔ IsNamedSo g other b
  named_same one other same b = (λ (name, is, rule, means). (name, (same name).0 is, rule, means), λ (name, is, rule, means). (name, (same name).1 is, rule, means))

  named_never : (is_so : List ℕ → Type 0) → ((name : List ℕ) → ¬ is_so name) → (b : ℕ) → IsNamedSo g is_so b → ⊥
  named_never is_so none b (name, is, rule, means) = none name is

  -- by one of a list
  pub named_some : {X : Type 0} (is_so : X → List ℕ → Type 0) (xs : List X) (b : ℕ) →
      ((x : X) × Contains xs x × IsNamedSo g (is_so x) b) ↔ IsNamedSo g (λ name. (x : X) × Contains xs x × is_so x name) b
  named_some is_so xs b = (λ (x, has, (name, is, rule, means)). (name, (x, has, is), rule, means), λ (name, (x, has, is), rule, means). (x, has, (name, is, rule, means)))

  -- by a cross-reference
  pub crossing_one : (wanted : List ℕ) (rule : Option (List ℕ)) (name : List ℕ) → IsReadBy g wanted rule name → (called : List ℕ) → IsThisName name called ↔ IsReadBy g wanted rule called
  crossing_one wanted rule name is called = (λ same. subst (IsReadBy g wanted rule) (sym same) is, λ was. one_reads g wanted rule called name was is)

  -- the same edges, by other words for the names
  pub added_by : {T E : Type 0} (r : Result T E) (from : ℕ) (one other : List ℕ → Type 0) → ((name : List ℕ) → one name ↔ other name) → (old new : Links) →
      OnOk r (AddsEdges from (IsNamedSo g one) old new) → OnOk r (AddsEdges from (IsNamedSo g other) old new)
  added_by r from one other same old new = on_ok_weaker r (AddsEdges-same from (IsNamedSo g one) (IsNamedSo g other) (named_same one other same) old new)

  pub added_none : (from : ℕ) (is_so : List ℕ → Type 0) → ((name : List ℕ) → ¬ is_so name) → (graph : Links) → AddsEdges from (IsNamedSo g is_so) graph graph
  added_none from is_so none graph = AddsEdges-none from (IsNamedSo g is_so) (named_never is_so none) graph

  pub added_some : {T E X : Type 0} (r : Result T E) (from : ℕ) (is_so : X → List ℕ → Type 0) (xs : List X) (old new : Links) →
      OnOk r (AddsEdges from (λ b. (x : X) × Contains xs x × IsNamedSo g (is_so x) b) old new) → OnOk r (AddsEdges from (IsNamedSo g (λ name. (x : X) × Contains xs x × is_so x name)) old new)
  added_some {X = X} r from is_so xs old new =
      on_ok_weaker r (AddsEdges-same from (λ b. (x : X) × Contains xs x × IsNamedSo g (is_so x) b) (IsNamedSo g (λ name. (x : X) × Contains xs x × is_so x name)) (named_some is_so xs) old new)
