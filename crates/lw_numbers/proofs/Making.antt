-- What leaves put in, one after another, and which rules make nodes by it.
use Rattle.std.proofs.Common.{◌≡◌, ℕ, ◌+◌, ◌<◌, ◌≤◌, List, [], Bool, Some, length, get_or, slice_get, Contains, ◌⊎◌, ◌↔◌, inl, inr, refl, sym, ap, ◌∙◌, subst, arith}
use Rattle.std.proofs.lemmas.Option.{slice_get_within, same_Some}
use Rattle.lw_base.specs.declared.token.Span.{Span}
use Rattle.lw_grammar.specs.declared.grammar.Grammar.{Grammar}
use Rattle.lw_grammar.specs.declared.rule.Rule.{Rule}
use Rattle.lw_grammar.specs.Leaves.{Leaf, Keyword, Call, Assign, Act, leaves}
use Rattle.lw_grammar.specs.Named.{IsRule}
use Rattle.lw_grammar.specs.Nodes.{MakesNodes}
use Rattle.lw_grammar.specs.Nodes as nodes
use Rattle.lw_grammar.proofs.FirstLemmas.{first_place}
use Rattle.lw_graph.specs.Walks.{HasEdge, HasNode, IsReachedFrom, stay}
use Rattle.lw_graph.proofs.WalkLemmas.{Walks-push, kept_by_walks}
use Rattle.lw_numbers.specs.declared.subtypes.nodes.Makers.{Makers}
use Rattle.lw_numbers.specs.Lists.{SomeAt, SomeBefore, Joins}
use Rattle.lw_numbers.specs.Makers.{MakesOne, LeafCalls, PutsMakers, PutsLeaf, LeavesCall, LeavesMake, AreMakers, Shows}
use Rattle.lw_numbers.specs.Kinship.{AreNodeRules}
use Rattle.lw_numbers.proofs.Joining.{joins_first, joins_none, joins_more, joins_all}
use Rattle.lw_base.proofs.Lists.{at_of, get_or_any, has_at}

module _ {A : Type 0} (xs : List A) (E : ℕ → A → ℕ → ℕ → Type 0) (S : ℕ → A → ℕ → Type 0) where
  -- what the first n items put in
  abbrev pub PutsFirst : ℕ → Makers → Makers → Type 0
  PutsFirst n = PutsMakers (λ from to. SomeBefore xs n (λ k x. E k x from to)) (λ r. SomeBefore xs n (λ k x. S k x r))

  pub puts_more : {a b c : Makers} (n : ℕ) (x : A) → slice_get xs n ≡ Some x → PutsFirst n a b → PutsMakers (E n x) (S n x) b c → PutsFirst (n + 1) a c
  puts_more n x at before one = record {
    edges_put = record {
      nodes = one.edges_put.nodes ∙ before.edges_put.nodes;
      edges = joins_more xs (λ k x arc. E k x arc.0 arc.1) n x at before.edges_put.edges one.edges_put.edges;
    };
    starts_put = joins_more xs S n x at before.starts_put one.starts_put;
  }

  pub puts_all : {a b : Makers} (n : ℕ) → length xs ≤ n → PutsFirst n a b → PutsMakers (λ from to. SomeAt xs (λ k x. E k x from to)) (λ r. SomeAt xs (λ k x. S k x r)) a b
  puts_all n all before = record {
    edges_put = record { nodes = before.edges_put.nodes; edges = joins_all xs (λ k x arc. E k x arc.0 arc.1) n all before.edges_put.edges };
    starts_put = joins_all xs S n all before.starts_put;
  }

module _ (g : Grammar) where
  -- a call of a rule puts in its edge
  pub call_puts : (rule q : ℕ) (called : Rule) (name : List ℕ) (s : Span) (leaf : Leaf) (old new : Makers) → leaf ≡ Call name s → IsRule g name q called →
      new.starts ≡ old.starts → new.callers.nodes ≡ old.callers.nodes →
      ((a b : ℕ) → HasEdge new.callers a b ↔ (HasEdge old.callers a b ⊎ ((a ≡ q) × (b ≡ rule)))) → PutsLeaf g rule leaf old new
  call_puts rule q called name s leaf old new is meant same nodes edges =
      let calls : PutsLeaf g rule (Call name s) old new = record {
        edges_put = record {
          nodes = nodes;
          edges = record {
            each = λ arc. (
              λ has. elim ((edges arc.0 arc.1).0 has) [
                | inl was ↦ inl was
                | inr new ↦ inr ((called, subst (λ n. IsRule g name n called) (sym new.0) meant), new.1)
              ],
              λ has. elim has [
                | inl was ↦ (edges arc.0 arc.1).1 (inl was)
                | inr put ↦ (edges arc.0 arc.1).1 (inr (first_place put.0.1.first meant.first, put.1))
              ],
            );
          };
        };
        starts_put = subst (λ v. Joins (λ r. MakesOne (Call name s) × (r ≡ rule)) (Contains old.starts.items) (Contains v.items)) (sym same) (joins_none (λ r put. put.0));
      } in
      subst (λ l. PutsLeaf g rule l old new) (sym is) calls

  -- ---- which rules make nodes

  module _ (makers : Makers) (are : AreMakers g makers) where
    own_start : (r : ℕ) (rule : Rule) (leaf : Leaf) → slice_get g.rules r ≡ Some rule → Contains (leaves rule.body) leaf → MakesOne leaf →
        IsReachedFrom makers.callers makers.starts.items r
    own_start r rule leaf at has makes =
        let place = at_of (leaves rule.body) leaf has in (r, (are.starts r).1 (r, rule, at, (place.0, leaf, place.1, (makes, refl))), stay)

    pub reached_maker : {rule : Rule} → MakesNodes g rule → (r : ℕ) → slice_get g.rules r ≡ Some rule → IsReachedFrom makers.callers makers.starts.items r
    reached_maker {rule} (nodes.assigns p op v s has) r at = own_start r rule (Assign p op v s) at has tt
    reached_maker {rule} (nodes.acts a has) r at = own_start r rule (Act a) at has tt
    reached_maker {rule} (nodes.calls name s q called has is makes) r at =
        let below = reached_maker makes q is.first.there in
        let place = at_of (leaves rule.body) (Call name s) has in
        (below.0, below.1, Walks-push below.2 ((are.edges q r).1 (r, rule, at, (place.0, Call name s, place.1, ((called, is), refl)))))

    abbrev Makes : ℕ → Type 0
    Makes r = (rule : Rule) → slice_get g.rules r ≡ Some rule → MakesNodes g rule

    start_makes : (r : ℕ) (rule : Rule) (leaf : Leaf) → Contains (leaves rule.body) leaf → MakesOne leaf → MakesNodes g rule
    start_makes r rule (Keyword text s) has makes = absurd makes
    start_makes r rule (Call name s) has makes = absurd makes
    start_makes r rule (Assign p op v s) has makes = nodes.assigns p op v s has
    start_makes r rule (Act a) has makes = nodes.acts a has

    call_makes : (q : ℕ) (rule : Rule) (leaf : Leaf) → Contains (leaves rule.body) leaf → LeafCalls g leaf q → Makes q → MakesNodes g rule
    call_makes q rule (Keyword text s) has calls makes = absurd calls
    call_makes q rule (Call name s) has (called, is) makes = nodes.calls name s q called has is (makes called is.first.there)
    call_makes q rule (Assign p op v s) has calls makes = absurd calls
    call_makes q rule (Act a) has calls makes = absurd calls

    edge_keeps : (from to : ℕ) → Makes from → HasEdge makers.callers from to → Makes to
    edge_keeps from to makes edge rule at =
        let put = (are.edges from to).0 edge in
        let leaf = put.3.1 in
        let same : put.1 ≡ rule = same_Some put.1 rule (sym put.2 ∙ ap (λ n. slice_get g.rules n) (sym put.3.3.1) ∙ at) in
        subst (MakesNodes g) same (call_makes from put.1 leaf (has_at (leaves put.1.body) put.3.0 leaf put.3.2) put.3.3.0 makes)

    pub maker_reached : (r : ℕ) → IsReachedFrom makers.callers makers.starts.items r → (rule : Rule) → slice_get g.rules r ≡ Some rule → MakesNodes g rule
    maker_reached r (start, begins, walk) = kept_by_walks Makes edge_keeps own walk
      where
        own : Makes start
        own rule at =
            let put = (are.starts start).0 begins in
            let leaf = put.3.1 in
            let same : put.1 ≡ rule = same_Some put.1 rule (sym put.2 ∙ ap (λ n. slice_get g.rules n) (sym put.3.3.1) ∙ at) in
            subst (MakesNodes g) same (start_makes start put.1 leaf (has_at (leaves put.1.body) put.3.0 leaf put.3.2) put.3.3.0)

    pub starts_within : (k : ℕ) (d : ℕ) → k < length makers.starts.items → get_or makers.starts.items k d < makers.callers.nodes
    starts_within k d inside =
        let put = (are.starts (get_or makers.starts.items k d)).0 (k, inside, get_or_any makers.starts.items k (get_or makers.starts.items k d) d inside) in
        omega (arith, are.nodes, slice_get_within g.rules put.0 put.1 put.2, put.3.3.1)

    pub shown_makers : (met flags : List Bool) → ((n : ℕ) → HasNode met n ↔ IsReachedFrom makers.callers makers.starts.items n) → Shows met (length g.rules) flags →
        AreNodeRules g flags
    shown_makers met flags reached shows = record {
      all = shows.all;
      exact = λ r rule at.
          let shown = shows.each r (slice_get_within g.rules r rule at) in
          (λ makes. shown.0 ((reached r).1 (reached_maker makes r at)), λ is. maker_reached r ((reached r).0 (shown.1 is)) rule at);
    }

  -- what the leaves of all rules put into nothing
  pub all_makers : (items : List Rule) (n : ℕ) (start makers : Makers) → items ≡ g.rules → length items ≤ n → makers.callers.nodes ≡ length g.rules →
      ((a b : ℕ) → ¬ HasEdge start.callers a b) → start.starts.items ≡ [] →
      PutsFirst items (λ k rule. LeavesCall g k (leaves rule.body)) (λ k rule. LeavesMake g k (leaves rule.body)) n start makers → AreMakers g makers
  all_makers items n start makers are all nodes no_edges no_starts first =
      let put = puts_all items (λ k rule. LeavesCall g k (leaves rule.body)) (λ k rule. LeavesMake g k (leaves rule.body)) n all first in
      let edges = joins_first (λ arc. no_edges arc.0 arc.1) put.edges_put.edges in
      let starts = joins_first (λ r has. omega (arith, has.1, ap length no_starts)) put.starts_put in
      record {
        nodes = nodes;
        edges = λ from to. subst (λ rules. HasEdge makers.callers from to ↔ SomeAt rules (λ k rule. LeavesCall g k (leaves rule.body) from to)) are (edges (from, to));
        starts = λ r. subst (λ rules. Contains makers.starts.items r ↔ SomeAt rules (λ k rule. LeavesMake g k (leaves rule.body) r)) are (starts r);
      }
