-- Edges between nodes as edges between their numbers, one after another.
use Rattle.std.proofs.Common.{◌≡◌, ℕ, ◌+◌, ◌≤◌, List, Some, length, slice_get, bytes_eq, ◌⊎◌, ◌↔◌, inl, inr, refl, sym, ap, ◌∙◌, subst, arith}
use Rattle.std.specs.List.{IsDistinct}
use Rattle.std.proofs.lemmas.Option.{slice_get_within, same_Some}
use Rattle.lw_grammar.specs.declared.grammar.Grammar.{Grammar}
use Rattle.lw_base.specs.declared.token.Span.{Span}
use Rattle.lw_grammar.specs.declared.declared_types.UnionDef.{UnionDef}
use Rattle.lw_grammar.specs.declared.declared_types.Member.{Member}
use Rattle.lw_grammar.specs.declared.declared_types.Member.TheVariants.{Named, Refers, Plain, Literal}
use Rattle.lw_grammar.specs.Leaves.{Leaf, Keyword, Call, Assign, Act}
use Rattle.lw_graph.specs.Walks.{Links, HasEdge}
use Rattle.lw_numbers.specs.declared.subtypes.kinship.Kinship.{Kinship}
use Rattle.lw_numbers.specs.Kin.{Kin, OfType, OfBody, IsEdge, InterfaceLeads, MemberLeads, UnionLeads, RuleLeads, LeadsUp, PutsUp, HasNumber, Placed}
use Rattle.lw_numbers.specs.KinGraph.{HasRoomYet, HasRoomFor, HasRoomForNames, PutsKin, IsKinship}
use Rattle.lw_numbers.specs.Spoken.{AreNames}
use Rattle.lw_numbers.specs.Lists.{SomeAt, SomeBefore, PutsEdges}
use Rattle.lw_numbers.proofs.Joining.{joins_then, joins_same, joins_none, joins_first, some_before_more, some_before_all}

module _ (names : List (List ℕ)) where
  pub one_number : (kin : Kin) (m n : ℕ) → HasNumber names kin m → HasNumber names kin n → m ≡ n
  one_number (OfType name) m n is was = same_Some m n (sym is ∙ was)
  one_number (OfBody r) m n is was = is ∙ sym was

  -- one edge, where both nodes have numbers
  pub puts_edge : (below above : Kin) (from to : ℕ) (old new : Links) → HasNumber names below from → HasNumber names above to → new.nodes ≡ old.nodes →
      ((a b : ℕ) → HasEdge new a b ↔ (HasEdge old a b ⊎ ((a ≡ from) × (b ≡ to)))) → PutsEdges (Placed names (IsEdge below above)) old new
  puts_edge below above from to old new is was nodes edges = record {
    nodes = nodes;
    edges = record {
      each = λ arc. (
        λ has. elim ((edges arc.0 arc.1).0 has) [
          | inl old ↦ inl old
          | inr put ↦ inr (below, above, (refl, refl), subst (HasNumber names below) (sym put.0) is, subst (HasNumber names above) (sym put.1) was)
        ],
        λ has. elim has [
          | inl old ↦ (edges arc.0 arc.1).1 (inl old)
          | inr put ↦ (edges arc.0 arc.1).1 (inr (
            one_number below arc.0 from (subst (λ kin. HasNumber names kin arc.0) put.2.0 put.3) is,
            one_number above arc.1 to (subst (λ kin. HasNumber names kin arc.1) put.2.1 put.4) was,
          ))
        ],
      );
    };
  }

  placed_same : {R S : Kin → Kin → Type 0} → ((from to : Kin) → R from to ↔ S from to) → (a b : ℕ) → Placed names R a b ↔ Placed names S a b
  placed_same same a b =
      (λ put. (put.0, put.1, (same put.0 put.1).0 put.2, put.3, put.4), λ put. (put.0, put.1, (same put.0 put.1).1 put.2, put.3, put.4))

  placed_or : {R S : Kin → Kin → Type 0} (a b : ℕ) → (Placed names R a b ⊎ Placed names S a b) ↔ Placed names (λ from to. R from to ⊎ S from to) a b
  placed_or a b = (
    λ put. elim put [
      | inl one ↦ (one.0, one.1, inl one.2, one.3, one.4)
      | inr two ↦ (two.0, two.1, inr two.2, two.3, two.4)
    ],
    λ put. elim put.2 [
      | inl one ↦ inl (put.0, put.1, one, put.3, put.4)
      | inr two ↦ inr (put.0, put.1, two, put.3, put.4)
    ],
  )

pub puts_none : {R : Kin → Kin → Type 0} {a : Kinship} → ((from to : Kin) → ¬ R from to) → PutsKin R a a
puts_none none = record { names_stay = refl; edges_put = record { nodes = refl; edges = joins_none (λ arc put. none put.0 put.1 put.2) } }

pub puts_same : {R S : Kin → Kin → Type 0} {a b : Kinship} → ((from to : Kin) → R from to ↔ S from to) → PutsKin R a b → PutsKin S a b
puts_same {a = a} same first = record {
  names_stay = first.names_stay;
  edges_put = record { nodes = first.edges_put.nodes; edges = joins_same (λ arc. placed_same a.names.keys same arc.0 arc.1) first.edges_put.edges };
}

pub puts_then : {R S : Kin → Kin → Type 0} {a b c : Kinship} → PutsKin R a b → PutsKin S b c → PutsKin (λ from to. R from to ⊎ S from to) a c
puts_then {S = S} {a = a} {b = b} {c = c} first second =
    let kept = subst (λ names. PutsEdges (Placed names S) b.graph c.graph) first.names_stay second.edges_put in
    record {
      names_stay = second.names_stay ∙ first.names_stay;
      edges_put = record {
        nodes = kept.nodes ∙ first.edges_put.nodes;
        edges = joins_same (λ arc. placed_or a.names.keys arc.0 arc.1) (joins_then first.edges_put.edges kept.edges);
      };
    }

pub names_fit : {R : Kin → Kin → Type 0} {a b : Kinship} → HasRoomForNames a → PutsKin R a b → HasRoomForNames b
names_fit room put = omega (arith, room, put.edges_put.nodes, ap length put.names_stay)

module _ {A : Type 0} (xs : List A) (E : ℕ → A → Kin → Kin → Type 0) where
  -- what the first n items put in
  abbrev pub PutsFirstKin : ℕ → Kinship → Kinship → Type 0
  PutsFirstKin n = PutsKin (λ from to. SomeBefore xs n (λ k x. E k x from to))

  pub puts_kin_more : {a b c : Kinship} (n : ℕ) (x : A) → slice_get xs n ≡ Some x → PutsFirstKin n a b → PutsKin (E n x) b c → PutsFirstKin (n + 1) a c
  puts_kin_more n x at before one =
      puts_same (λ from to. let both = some_before_more xs (λ k y. E k y from to) n x at in (both.1, both.0)) (puts_then before one)

  pub puts_kin_all : {a b : Kinship} (n : ℕ) → length xs ≤ n → PutsFirstKin n a b → PutsKin (λ from to. SomeAt xs (λ k x. E k x from to)) a b
  puts_kin_all n all before = puts_same (λ from to. some_before_all xs (λ k x. E k x from to) n all) before

module _ (g : Grammar) where
  pub room_stays : {R : Kin → Kin → Type 0} {a b : Kinship} → HasRoomYet g a → PutsKin R a b → HasRoomYet g b
  room_stays room put = record {
    few = room.few;
    nodes = put.edges_put.nodes ∙ room.nodes ∙ ap (λ names. length names + length g.rules) (sym put.names_stay);
  }

  -- there is a node for what a leaf puts up
  pub room_for : (kinship : Kinship) → HasRoomYet g kinship → (leaf : Leaf) (kin : Kin) → PutsUp g leaf kin → HasRoomFor kinship kin
  room_for kinship room (Keyword text s) kin puts = absurd puts
  room_for kinship room (Call name s) kin (q, called, is, inl (whole, kin_is)) =
      let inside = slice_get_within g.rules q called is.first.there in
      subst (HasRoomFor kinship) (sym kin_is) (omega (arith, inside, room.few), omega (arith, inside, room.nodes))
  room_for kinship room (Call name s) kin (q, called, is, inr (below, typed, kin_is)) = subst (HasRoomFor kinship) (sym kin_is) (omega (arith, room.nodes))
  room_for kinship room (Assign p op v s) kin puts = absurd puts
  room_for kinship room (Act a) kin kin_is = subst (HasRoomFor kinship) (sym kin_is) (omega (arith, room.nodes))

pub no_member_leads : (union : UnionDef) (member : Member) → ((name : List ℕ) (s : Span) → member ≡ Named name s → ⊥) → (from to : Kin) → ¬ MemberLeads union member from to
no_member_leads union (Named own s) not from to leads = not own s refl
no_member_leads union (Refers name s) not from to leads = leads
no_member_leads union (Plain primitive) not from to leads = leads
no_member_leads union (Literal text) not from to leads = leads

-- all edges, put into a graph of none
pub all_kinship : (g : Grammar) (start last : Kinship) {one two : Kinship} → AreNames g start.names.keys → IsDistinct bytes_eq start.names.keys → HasRoomYet g start →
    ((a b : ℕ) → ¬ HasEdge start.graph a b) → PutsKin (λ from to. SomeAt g.interfaces (λ k interface. InterfaceLeads g k interface from to)) start one →
    PutsKin (λ from to. SomeAt g.unions (λ k union. UnionLeads g k union from to)) one two →
    PutsKin (λ from to. SomeAt g.rules (λ k rule. RuleLeads g k rule from to)) two last → IsKinship g last
all_kinship g start last names distinct room none extends members inferred =
    let put = puts_same {S = LeadsUp g} (λ from to. (
      λ any. elim any [
        | inl first ↦ elim first [ inl one ↦ inl one | inr two ↦ inr (inl two) ]
        | inr three ↦ inr (inr three)
      ],
      λ any. elim any [
        | inl one ↦ inl (inl one)
        | inr (inl two) ↦ inl (inr two)
        | inr (inr three) ↦ inr three
      ],
    )) (puts_then (puts_then extends members) inferred) in
    let edges = joins_first (λ arc. none arc.0 arc.1) put.edges_put.edges in
    record {
      names = subst (AreNames g) (sym put.names_stay) names;
      distinct = subst (IsDistinct bytes_eq) (sym put.names_stay) distinct;
      nodes = omega (arith, put.edges_put.nodes, room.nodes, ap length put.names_stay);
      edges = λ a b. subst (λ keys. HasEdge last.graph a b ↔ Placed keys (LeadsUp g) a b) (sym put.names_stay) (edges (a, b));
    }
