-- One type is below another where edges lead up from the one to the other, over the bodies of rules between.
use Rattle.std.proofs.Common.{◌≡◌, ℕ, List, Some, true, false, slice_get, Contains, inl, inr, refl, sym, ap, ◌∙◌, subst, true≢false}
use Rattle.std.proofs.lemmas.Option.{same_Some}
use Rattle.lw_grammar.specs.declared.grammar.Grammar.{Grammar}
use Rattle.lw_grammar.specs.declared.rule.Rule.{Rule}
use Rattle.lw_grammar.specs.declared.declared_types.UnionDef.{UnionDef}
use Rattle.lw_grammar.specs.declared.declared_types.Member.{Member}
use Rattle.lw_grammar.specs.declared.declared_types.Member.TheVariants.{Named, Refers, Plain, Literal}
use Rattle.lw_grammar.specs.Leaves.{Leaf, Keyword, Call, Assign, Act, leaves, IsFragmentCall, HasLeaves}
use Rattle.lw_grammar.specs.Named.{IsRule, IsInterface, IsUnion}
use Rattle.lw_grammar.specs.Subtypes.{HasType, InfersType, IsDirectlyBelow, IsSubtype, same, up}
use Rattle.lw_grammar.specs.Subtypes as subtype
use Rattle.lw_grammar.proofs.FirstLemmas.{first_item}
use Rattle.lw_numbers.specs.PutIn.{HeldWithin, here, put_in}
use Rattle.lw_numbers.specs.Lists.{SomeAt}
use Rattle.lw_numbers.specs.Kin.{Kin, OfType, OfBody, IsEdge, InterfaceLeads, MemberLeads, PutsUp, RuleLeads, LeadsUp}
use Rattle.lw_numbers.proofs.Expanding.{fragment_there, has_leaves, leaves_within}
use Rattle.lw_base.proofs.Lists.{at_map, at_of, has_at, map_has}

module _ (g : Grammar) where
  -- edges one after another
  pub data Climbs : Kin → Kin → Type 0 where
    stay : {a : Kin} → Climbs a a
    go : {a b c : Kin} → LeadsUp g a b → Climbs b c → Climbs a c

  Climbs-trans : {a b c : Kin} → Climbs a b → Climbs b c → Climbs a c
  Climbs-trans stay more = more
  Climbs-trans (go edge rest) more = go edge (Climbs-trans rest more)

  -- ---- what a climb to a type says

  -- a leaf that stands within the rule makes the type of this name
  abbrev Makes : Rule → List ℕ → Type 0
  Makes rule name = (leaf : Leaf) × HeldWithin g rule leaf × PutsUp g leaf (OfType name)

  abbrev IsBelow : Kin → List ℕ → Type 0
  IsBelow (OfType name) top = IsSubtype g name top
  IsBelow (OfBody r) top = (rule : Rule) → slice_get g.rules r ≡ Some rule → (name : List ℕ) → Makes rule name → IsSubtype g name top

  module _ (top : List ℕ) where
    along : {below above from to : Kin} → IsEdge below above from to → (IsBelow above top → IsBelow below top) → IsBelow to top → IsBelow from top
    along (is, was) step rest = subst (λ k. IsBelow k top) (sym is) (step (subst (λ k. IsBelow k top) was rest))

    by_interface : {from to : Kin} → SomeAt g.interfaces (λ i interface. InterfaceLeads g i interface from to) → IsBelow to top → IsBelow from top
    by_interface (i, interface, at, (meant, (k, above, stands, edge))) =
        along edge (λ rest. up (subtype.extends i interface meant (map_has (λ n. n.0) interface.above k above stands)) rest)

    by_member : (from to : Kin) (u : ℕ) (union : UnionDef) (k : ℕ) (member : Member) → IsUnion g union.name u union → slice_get union.members k ≡ Some member →
        MemberLeads union member from to → IsBelow to top → IsBelow from top
    by_member from to u union k (Named name s) meant at edge = along edge (λ rest. up (subtype.is_member u union s meant (has_at union.members k (Named name s) at)) rest)
    by_member from to u union k (Refers name s) meant at edge = absurd edge
    by_member from to u union k (Plain primitive) meant at edge = absurd edge
    by_member from to u union k (Literal text) meant at edge = absurd edge

    -- a call of a rule that has a type calls no fragment
    no_fragment : (name : List ℕ) (q : ℕ) (called : Rule) → IsRule g name q called → (below : List ℕ) → HasType g called below → (f : ℕ) (fragment : Rule) →
        ¬ (IsRule g name f fragment × (fragment.is_fragment ≡ true))
    no_fragment name q called is below has f fragment calls =
        true≢false (sym calls.1 ∙ subst (λ (x : Rule). x.is_fragment ≡ false) (first_item is.first calls.0.first) has.0)

    by_leaf : (from : Kin) (r : ℕ) (rule : Rule) (leaf : Leaf) → slice_get g.rules r ≡ Some rule → Contains (leaves rule.body) leaf → PutsUp g leaf from →
        IsBelow (OfBody r) top → IsBelow from top
    by_leaf from r rule (Keyword text s) at has feeds rest = absurd feeds
    by_leaf from r rule (Call name s) at has (q, called, is, inl (whole, from_is)) rest = subst (λ k. IsBelow k top) (sym from_is) (λ other at' x makes.
        let same : other ≡ called = same_Some other called (sym at' ∙ is.first.there) in
        let inside : HeldWithin g called makes.0 = subst (λ (y : Rule). HeldWithin g y makes.0) same makes.1 in
        rest rule at x (makes.0, put_in (Call name s) q called has (is, whole) inside, makes.2))
    by_leaf from r rule (Call name s) at has (q, called, is, inr (below, typed, from_is)) rest = subst (λ k. IsBelow k top) (sym from_is)
        (rest rule at below (Call name s, here has (no_fragment name q called is below typed), (q, called, is, inr (below, typed, refl))))
    by_leaf from r rule (Assign p op v s) at has feeds rest = absurd feeds
    by_leaf from r rule (Act a) at has from_is rest = subst (λ k. IsBelow k top) (sym from_is) (rest rule at a.type_name (Act a, here has (λ f fragment is. is), refl))

    -- what is made within a rule whose type is inferred is below that type
    made_below : (r : ℕ) (rule : Rule) (above : List ℕ) → slice_get g.rules r ≡ Some rule → InfersType g rule above → (name : List ℕ) → Makes rule name →
        IsDirectlyBelow g name above
    made_below r rule above at infers name (Keyword text s, within, feeds) = absurd feeds
    made_below r rule above at infers name (Call called_name s, within, (q, called, is, inl (whole, wrong))) = absurd cc
    made_below r rule above at infers name (Call called_name s, within, (q, called, is, inr (below, typed, name_is))) =
        let all = has_leaves g rule in
        let same : below ≡ name = cc in
        subst (λ n. IsDirectlyBelow g n above) same
        (subtype.calls rule all.0 called_name s q called (has_at g.rules r rule at) infers all.1 ((leaves_within g rule all.0 all.1 (Call called_name s)).1 within) is typed)
    made_below r rule above at infers name (Assign p op v s, within, feeds) = absurd feeds
    made_below r rule above at infers name (Act a, within, name_is) =
        let all = has_leaves g rule in
        let same : a.type_name ≡ name = cc in
        subst (λ n. IsDirectlyBelow g n above) same
        (subtype.acts rule all.0 a (has_at g.rules r rule at) infers all.1 ((leaves_within g rule all.0 all.1 (Act a)).1 within))

    by_rule : (from to : Kin) (r : ℕ) (rule : Rule) → slice_get g.rules r ≡ Some rule → RuleLeads g r rule from to → IsBelow to top → IsBelow from top
    by_rule from to r rule at (inl (k, leaf, stands, (feeds, to_is))) rest =
        by_leaf from r rule leaf at (has_at (leaves rule.body) k leaf stands) feeds (subst (λ k. IsBelow k top) to_is rest)
    by_rule from to r rule at (inr (above, infers, edge)) rest = along edge (λ higher other at' name makes.
        let is : other ≡ rule = same_Some other rule (sym at' ∙ at) in
        up (made_below r rule above at infers name (subst (λ (x : Rule). Makes x name) is makes)) higher) rest

    by_edge : {from to : Kin} → LeadsUp g from to → IsBelow to top → IsBelow from top
    by_edge (inl leads) = by_interface leads
    by_edge {from} {to} (inr (inl (u, union, at, (meant, (k, member, stands, leads))))) = by_member from to u union k member meant stands leads
    by_edge {from} {to} (inr (inr (r, rule, at, leads))) = by_rule from to r rule at leads

    by_climb : {from to : Kin} → Climbs from to → to ≡ OfType top → IsBelow from top
    by_climb stay is = subst (λ k. IsBelow k top) (sym is) same
    by_climb (go edge rest) is = by_edge edge (by_climb rest is)

  pub below_from_climb : {name top : List ℕ} → Climbs (OfType name) (OfType top) → IsSubtype g name top
  below_from_climb {name} {top} climb = by_climb top climb refl

  -- ---- and back

  over_leaf : (r : ℕ) (rule : Rule) (leaf : Leaf) (from : Kin) → slice_get g.rules r ≡ Some rule → Contains (leaves rule.body) leaf → PutsUp g leaf from → LeadsUp g from (OfBody r)
  over_leaf r rule leaf from at has feeds =
      let place = at_of (leaves rule.body) leaf has in inr (inr (r, rule, at, inl (place.0, leaf, place.1, (feeds, refl))))

  -- from a fragment's body to that of a rule that calls it
  over_fragment : (r : ℕ) (rule : Rule) (call : Leaf) (f : ℕ) (fragment : Rule) → slice_get g.rules r ≡ Some rule → Contains (leaves rule.body) call →
      IsFragmentCall g call f fragment → LeadsUp g (OfBody f) (OfBody r)
  over_fragment r rule (Keyword text s) f fragment at has calls = absurd calls
  over_fragment r rule (Call name s) f fragment at has calls = over_leaf r rule (Call name s) (OfBody f) at has (f, fragment, calls.0, inl (calls.1, refl))
  over_fragment r rule (Assign p op v s) f fragment at has calls = absurd calls
  over_fragment r rule (Act a) f fragment at has calls = absurd calls

  into_body : {rule : Rule} {leaf : Leaf} (r : ℕ) (from : Kin) → slice_get g.rules r ≡ Some rule → HeldWithin g rule leaf → PutsUp g leaf from → Climbs from (OfBody r)
  into_body {rule} {leaf} r from at (here has kept) feeds = go (over_leaf r rule leaf from at has feeds) stay
  into_body {rule} {leaf} r from at (put_in call f fragment has calls inside) feeds =
      Climbs-trans (into_body f from (fragment_there g call f fragment calls) inside feeds) (go (over_fragment r rule call f fragment at has calls) stay)

  -- and on to the type that is inferred
  over_body : (rule : Rule) (leaf : Leaf) (all : List Leaf) (from : Kin) (above : List ℕ) → Contains g.rules rule → InfersType g rule above → HasLeaves g rule all →
      Contains all leaf → PutsUp g leaf from → Climbs from (OfType above)
  over_body rule leaf all from above is_rule infers are has feeds =
      let place = at_of g.rules rule is_rule in
      Climbs-trans (into_body place.0 from place.1 ((leaves_within g rule all are leaf).0 has) feeds)
      (go (inr (inr (place.0, rule, place.1, inr (above, infers, (refl, refl))))) stay)

  climb_directly : {name above : List ℕ} → IsDirectlyBelow g name above → Climbs (OfType name) (OfType above)
  climb_directly {name} {above} (subtype.extends i interface meant has) =
      let stands = at_map (λ n. n.0) interface.above above has in
      let own : IsInterface g interface.name i interface = subst (λ n. IsInterface g n i interface) (sym meant.first.does) meant in
      go (inl (i, interface, meant.first.there, (own, (stands.0, stands.1, stands.2, (ap OfType (sym meant.first.does), ap OfType (sym stands.3)))))) stay
  climb_directly {name} {above} (subtype.is_member u union s meant has) =
      let stands = at_of union.members (Named name s) has in
      let own : IsUnion g union.name u union = subst (λ n. IsUnion g n u union) (sym meant.first.does) meant in
      go (inr (inl (u, union, meant.first.there, (own, (stands.0, Named name s, stands.1, (refl, ap OfType (sym meant.first.does))))))) stay
  climb_directly {above = above} (subtype.acts rule all a is_rule infers are has) = over_body rule (Act a) all (OfType a.type_name) above is_rule infers are has refl
  climb_directly {name} {above} (subtype.calls rule all called_name s q called is_rule infers are has is typed) =
      over_body rule (Call called_name s) all (OfType name) above is_rule infers are has (q, called, is, inr (name, typed, refl))

  pub climb_from_below : {name top : List ℕ} → IsSubtype g name top → Climbs (OfType name) (OfType top)
  climb_from_below same = stay
  climb_from_below (up directly rest) = Climbs-trans (climb_directly directly) (climb_from_below rest)
