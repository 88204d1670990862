-- Walks between numbers are climbs between what has these numbers, and so the rows of the table say which types are below which.
use Rattle.std.proofs.Common.{◌≡◌, ℕ, ◌+◌, ◌<◌, List, [], ◌∷◌, ◌++◌, true, cond, Some, None, length, get_or, map, slice_get, position, Contains, bytes_eq, ◌⊎◌, inl, inr, refl, sym, ap, ◌∙◌, subst, arith, true≢false}
use Rattle.std.specs.List.{flat_map, IsDistinct, position_or_len}
use Rattle.std.proofs.lemmas.List.Elements.{Contains-append_left, Contains-append_right}
use Rattle.std.proofs.lemmas.Option.{slice_get_within, slice_get-get_or, get_or_from_slice_get, same_Some}
use Rattle.std.proofs.lemmas.Slice.Eq.{bytes_eq-Decides}
use Rattle.std.proofs.lemmas.Bool.{cases_order, lt-ltb}
use Rattle.std.proofs.lemmas.List.Quantifiers.{position-Some}
use Rattle.std.proofs.lemmas.Map.Keys.{apart_from_distinct}
use Rattle.lw_grammar.specs.declared.rule.Action.{Action}
use Rattle.lw_grammar.specs.declared.grammar.Grammar.{Grammar}
use Rattle.lw_grammar.specs.declared.rule.Rule.{Rule}
use Rattle.lw_grammar.specs.declared.rule.RuleResult.{RuleResult}
use Rattle.lw_grammar.specs.declared.rule.RuleResult.TheVariants.{Own, Returns, Gives, Infers}
use Rattle.lw_grammar.specs.declared.declared_types.Interface.{Interface}
use Rattle.lw_grammar.specs.declared.declared_types.UnionDef.{UnionDef}
use Rattle.lw_grammar.specs.declared.declared_types.Member.{Member}
use Rattle.lw_grammar.specs.declared.declared_types.Member.TheVariants.{Named, Refers, Plain, Literal}
use Rattle.lw_grammar.specs.Leaves.{Leaf, Keyword, Call, Assign, Act, leaves}
use Rattle.lw_grammar.specs.Subtypes.{HasType, ResultNames, IsSubtype}
use Rattle.lw_grammar.specs.Subtypes as subtype
use Rattle.lw_grammar.proofs.FirstUses.{Contains-first_uses}
use Rattle.lw_numbers.specs.Numbering.{type_names, rule_types, result_types, leaf_types, if_whole}
use Rattle.lw_graph.specs.Walks.{Walks, stay, go}
use Rattle.lw_numbers.specs.declared.subtypes.kinship.Kinship.{Kinship}
use Rattle.lw_numbers.specs.Above.{AreRows}
use Rattle.lw_numbers.specs.Kin.{Kin, OfType, OfBody, LeadsUp, MemberLeads, PutsUp, HasNumber}
use Rattle.lw_numbers.specs.KinGraph.{IsKinship}
use Rattle.lw_numbers.specs.Kinship.{TypeTable, StandsBelow, AreSubtypesOf}
use Rattle.lw_numbers.specs.Kinship as table
use Rattle.lw_numbers.specs.Spoken.{AreNames}
use Rattle.lw_numbers.proofs.Climbing.{Climbs, below_from_climb, climb_from_below}
use Rattle.lw_numbers.proofs.Climbing as climb
use Rattle.lw_numbers.proofs.Placing.{one_number}
use Rattle.lw_base.proofs.Lists.{first_below, flat_map_has, has_at, map_has, the_first}

-- ---- places of texts

same_itself : (name : List ℕ) → bytes_eq name name ≡ true
same_itself name = (bytes_eq-Decides name name).1 refl

module _ (names : List (List ℕ)) (name : List ℕ) where
  -- a text that stands in a list has a first place
  pub has_place : Contains names name → (n : ℕ) × (position (bytes_eq name) names ≡ Some n)
  has_place has =
      let n = position_or_len (bytes_eq name) names in
      (n, ap (λ b. cond b (Some n) None) (lt-ltb n (length names) (first_below (bytes_eq name) names name has (same_itself name))))

  -- and it stands there
  pub at_place : (n : ℕ) → position (bytes_eq name) names ≡ Some n → slice_get names n ≡ Some name
  at_place n is =
      let found = position-Some (bytes_eq name) names n name is in
      slice_get-get_or names n name found.0 ∙ ap Some (sym ((bytes_eq-Decides name (get_or names n name)).0 found.1))

  -- where no text stands twice, at this place alone
  pub only_place : IsDistinct bytes_eq names → (n : ℕ) → slice_get names n ≡ Some name → position (bytes_eq name) names ≡ Some n
  only_place distinct n at =
      let first = has_place (has_at names n name at) in
      let there = at_place first.0 first.1 in
      elim (cases_order first.0 n) [
        | inl same ↦ first.1 ∙ ap Some same
        | inr (inl before) ↦ absurd (apart first.0 n before there at)
        | inr (inr behind) ↦ absurd (apart n first.0 behind at there)
      ]
    where
      apart : (i j : ℕ) → i < j → slice_get names i ≡ Some name → slice_get names j ≡ Some name → ⊥
      apart i j before one other =
          let differ = apart_from_distinct bytes_eq names i j name distinct before (slice_get_within names j name other) in
          true≢false (
          sym (same_itself name) ∙ ap (λ x. bytes_eq x name) (sym (get_or_from_slice_get names i name name one))
          ∙ ap (bytes_eq (get_or names i name)) (sym (get_or_from_slice_get names j name name other)) ∙ differ
          )

-- ---- every end of an edge has a name that is numbered

abbrev HasName : List (List ℕ) → Kin → Type 0
HasName names (OfType name) = Contains names name
HasName names (OfBody r) = Unit {0}

result_has : (rule : Rule) (r : RuleResult) (g : Grammar) (name : List ℕ) → ResultNames g r rule.name name → Contains (result_types rule r) name
result_has rule Own g name is = subst (Contains (rule.name ∷ [])) (sym is) (the_first rule.name [])
result_has rule (Returns own s) g name is = subst (Contains (own ∷ [])) (sym is) (the_first own [])
result_has rule (Gives primitive) g name is = absurd is
result_has rule (Infers own s) g name is = subst (Contains (own ∷ [])) (sym is) (the_first own [])

module _ (g : Grammar) where
  typed_has : (rule : Rule) (name : List ℕ) → HasType g rule name → Contains (rule_types rule) name
  typed_has rule name typed =
      Contains-append_left (if_whole rule.is_fragment (result_types rule rule.result)) (flat_map leaf_types (leaves rule.body)) name
      (subst (λ b. Contains (if_whole b (result_types rule rule.result)) name) (sym typed.0) (result_has rule rule.result g name typed.1))

  acted_has : (rule : Rule) (a : Action) → Contains (leaves rule.body) (Act a) → Contains (rule_types rule) a.type_name
  acted_has rule a has =
      Contains-append_right (if_whole rule.is_fragment (result_types rule rule.result)) (flat_map leaf_types (leaves rule.body)) a.type_name
      (flat_map_has leaf_types (leaves rule.body) (Act a) a.type_name has (the_first a.type_name []))

  module _ (names : List (List ℕ)) (are : AreNames g names) where
    of_interfaces : List (List ℕ)
    of_interfaces = map (λ (i : Interface). i.name) g.interfaces

    of_unions : List (List ℕ)
    of_unions = map (λ (u : UnionDef). u.name) g.unions

    of_rules : List (List ℕ)
    of_rules = flat_map rule_types g.rules

    numbered : (name : List ℕ) → Contains (of_interfaces ++ of_unions ++ of_rules) name → Contains names name
    unfolding of_interfaces of_unions of_rules
    numbered name has =
        subst (λ ns. Contains ns name) (sym are.begins) (Contains-append_left (type_names g) are.others name (Contains-first_uses _ name has))

    interface_named : (i : ℕ) (x : Interface) → slice_get g.interfaces i ≡ Some x → Contains names x.name
    unfolding of_interfaces
    interface_named i x at =
        numbered x.name (Contains-append_left (of_interfaces ++ of_unions) of_rules x.name
        (Contains-append_left of_interfaces of_unions x.name (map_has (λ (i : Interface). i.name) g.interfaces i x at)))

    union_named : (u : ℕ) (x : UnionDef) → slice_get g.unions u ≡ Some x → Contains names x.name
    unfolding of_unions
    union_named u x at =
        numbered x.name (Contains-append_left (of_interfaces ++ of_unions) of_rules x.name
        (Contains-append_right of_interfaces of_unions x.name (map_has (λ (u : UnionDef). u.name) g.unions u x at)))

    rule_named : (r : ℕ) (rule : Rule) (name : List ℕ) → slice_get g.rules r ≡ Some rule → Contains (rule_types rule) name → Contains names name
    unfolding of_rules
    rule_named r rule name at has =
        numbered name (Contains-append_right (of_interfaces ++ of_unions) of_rules name (flat_map_has rule_types g.rules rule name (has_at g.rules r rule at) has))

    member_named : (u : ℕ) (union : UnionDef) (k : ℕ) (member : Member) (from to : Kin) → slice_get g.unions u ≡ Some union → slice_get union.members k ≡ Some member →
        MemberLeads union member from to → HasName names from × HasName names to
    member_named u union k (Named name s) from to at stands edge = (
      subst (HasName names) (sym edge.0) (are.members name (u, union, at, (k, Named name s, stands, refl))),
      subst (HasName names) (sym edge.1) (union_named u union at),
    )
    member_named u union k (Refers name s) from to at stands edge = absurd edge
    member_named u union k (Plain primitive) from to at stands edge = absurd edge
    member_named u union k (Literal text) from to at stands edge = absurd edge

    leaf_named : (r : ℕ) (rule : Rule) (leaf : Leaf) (from : Kin) → slice_get g.rules r ≡ Some rule → Contains (leaves rule.body) leaf → PutsUp g leaf from → HasName names from
    leaf_named r rule (Keyword text s) from at has puts = absurd puts
    leaf_named r rule (Call name s) from at has (q, called, is, inl (whole, from_is)) = subst (HasName names) (sym from_is) tt
    leaf_named r rule (Call name s) from at has (q, called, is, inr (below, typed, from_is)) =
        subst (HasName names) (sym from_is) (rule_named q called below is.first.there (typed_has called below typed))
    leaf_named r rule (Assign p op v s) from at has puts = absurd puts
    leaf_named r rule (Act a) from at has from_is = subst (HasName names) (sym from_is) (rule_named r rule a.type_name at (acted_has rule a has))

    ends_named : (from to : Kin) → LeadsUp g from to → HasName names from × HasName names to
    ends_named from to (inl (i, x, at, (meant, (k, above, stands, edge)))) = (
      subst (HasName names) (sym edge.0) (interface_named i x at),
      subst (HasName names) (sym edge.1) (are.extended above.0 (i, x, at, (k, above, stands, refl))),
    )
    ends_named from to (inr (inl (u, union, at, (meant, (k, member, stands, leads))))) = member_named u union k member from to at stands leads
    ends_named from to (inr (inr (r, rule, at, inl (k, leaf, stands, (puts, to_is))))) =
        (leaf_named r rule leaf from at (has_at (leaves rule.body) k leaf stands) puts, subst (HasName names) (sym to_is) tt)
    ends_named from to (inr (inr (r, rule, at, inr (above, infers, edge)))) =
        (subst (HasName names) (sym edge.0) tt, subst (HasName names) (sym edge.1) (rule_named r rule above at (typed_has rule above infers.0)))

-- ---- numbers of nodes

module _ (names : List (List ℕ)) where
  has_number : (kin : Kin) → HasName names kin → (n : ℕ) × HasNumber names kin n
  has_number (OfType name) has = has_place names name has
  has_number (OfBody r) has = (length names + r, refl)

  one_kin : (one other : Kin) (n : ℕ) → HasNumber names one n → HasNumber names other n → one ≡ other
  one_kin (OfType a) (OfType b) n is was = ap OfType (same_Some a b (sym (at_place names a n is) ∙ at_place names b n was))
  one_kin (OfType a) (OfBody r) n is was = absurd (omega (arith, slice_get_within names n a (at_place names a n is), was))
  one_kin (OfBody r) (OfType b) n is was = absurd (omega (arith, slice_get_within names n b (at_place names b n was), is))
  one_kin (OfBody r) (OfBody q) n is was = ap OfBody (omega (arith, is, was))

-- ---- walks are climbs

module _ (g : Grammar) (kinship : Kinship) (is : IsKinship g kinship) where
  abbrev names : List (List ℕ)
  names = kinship.names.keys

  walk_of : {from to : Kin} → Climbs g from to → (m n : ℕ) → HasNumber names from m → HasNumber names to n → Walks kinship.graph m n
  walk_of (climb.stay {a = kin}) m n has had = subst (Walks kinship.graph m) (one_number names kin m n has had) stay
  walk_of (climb.go {a = from} {b = mid} edge rest) m n has had =
      let over = has_number names mid (ends_named g names is.names from mid edge).1 in
      go ((is.edges m over.0).1 (from, mid, edge, has, over.1)) (walk_of rest over.0 n over.1 had)

  climb_of : {m n : ℕ} → Walks kinship.graph m n → (from to : Kin) → HasNumber names from m → HasNumber names to n → Climbs g from to
  climb_of (stay {a = n}) from to has had = subst (Climbs g from) (one_kin names from to n has had) climb.stay
  climb_of (go {a = m} {b = k} edge rest) from to has had =
      let put = (is.edges m k).0 edge in
      climb.go (subst (λ kin. LeadsUp g kin put.1) (one_kin names put.0 from m put.3 has) put.2) (climb_of rest put.1 to put.4 had)

  ends_with_name : {from to : Kin} → Climbs g from to → HasName names from → HasName names to
  ends_with_name climb.stay has = has
  ends_with_name (climb.go {a = from} {b = mid} edge rest) has = ends_with_name rest (ends_named g names is.names from mid edge).1

  cases_climb : {from to : Kin} → Climbs g from to → (from ≡ to) ⊎ (HasName names from × HasName names to)
  cases_climb climb.stay = inl refl
  cases_climb (climb.go {a = from} {b = mid} edge rest) =
      let ends = ends_named g names is.names from mid edge in inr (ends.0, ends_with_name rest ends.1)

  module _ (rows : List (List ℕ)) (are : AreRows kinship.graph (length names) (length names) rows) where
    made : TypeTable
    made = record { names = names; above = rows }

    shown : (one other : List ℕ) → IsSubtype g one other → StandsBelow made one other
    unfolding made
    shown one other below = by (cases_climb climbs)
      where
        climbs : Climbs g (OfType one) (OfType other)
        climbs = climb_from_below g below

        by : (OfType one ≡ OfType other) ⊎ (Contains names one × Contains names other) → StandsBelow made one other
        by (inl equal) = let is_it : one ≡ other = cc in subst (StandsBelow made one) is_it table.same
        by (inr ends) =
            let low = has_place names one ends.0 in
            let high = has_place names other ends.1 in
            let low_at = at_place names one low.0 low.1 in
            let high_at = at_place names other high.0 high.1 in
            let inside = slice_get_within names low.0 one low_at in
            let row_at = slice_get-get_or rows low.0 [] (omega (arith, are.all, inside)) in
            table.below low.0 high.0 (get_or rows low.0 []) low_at high_at row_at
            (((are.rows_are low.0 _ row_at).each high.0).1 (slice_get_within names high.0 other high_at, walk_of climbs low.0 high.0 low.1 high.1))

    held : (one other : List ℕ) → StandsBelow made one other → IsSubtype g one other
    unfolding made
    held one other table.same = subtype.same
    held one other (table.below i j ups one_at other_at row_at has) =
        let walk = (((are.rows_are i ups row_at).each j).0 has).1 in
        below_from_climb g (climb_of walk (OfType one) (OfType other) (only_place names one is.distinct i one_at) (only_place names other is.distinct j other_at))

    pub table_of : AreSubtypesOf g (record { names = names; above = rows })
    unfolding made
    table_of = record {
      others = is.names.others;
      begins = is.names.begins;
      all = are.all;
      exact = λ one other. (shown one other, held one other);
    }
