-- A name stands in the list of all exactly where the definitions of faults speak of it.
use Rattle.std.proofs.Common.{◌≡◌, ◌↔◌, ℕ, List, [], ◌∷◌, ◌++◌, Bool, true, false, Option, Some, None, map, Contains, ◌⊎◌, inl, inr, refl, sym, subst}
use Rattle.std.specs.List.{flat_map}
use Rattle.std.proofs.lemmas.List.Elements.{Contains-append_left, Contains-append_right, Contains-append_cases}
use Rattle.lw_base.specs.declared.token.Span.{Span}
use Rattle.lw_grammar.specs.declared.grammar.Grammar.{Grammar}
use Rattle.lw_grammar.specs.declared.rule.Rule.{Rule}
use Rattle.lw_grammar.specs.declared.rule.RuleResult.{RuleResult}
use Rattle.lw_grammar.specs.declared.rule.RuleResult.TheVariants.{Own, Returns, Gives, Infers}
use Rattle.lw_grammar.specs.declared.rule.Op.{Op}
use Rattle.lw_grammar.specs.declared.rule.Value0.{Value0}
use Rattle.lw_grammar.specs.declared.rule.Action.{Action}
use Rattle.lw_grammar.specs.declared.terminal.Terminal.{Terminal}
use Rattle.lw_grammar.specs.declared.declared_types.Interface.{Interface}
use Rattle.lw_grammar.specs.declared.declared_types.Attribute.{Attribute}
use Rattle.lw_grammar.specs.declared.declared_types.UnionDef.{UnionDef}
use Rattle.lw_grammar.specs.declared.declared_types.Member.{Member}
use Rattle.lw_grammar.specs.declared.declared_types.Member.TheVariants as member
use Rattle.lw_grammar.specs.Leaves as leaf
use Rattle.lw_grammar.specs.Leaves.{Leaf, ValueLeaf, leaves, value_leaves}
use Rattle.lw_base.proofs.Lists.{there}
use Rattle.lw_grammar.specs.Written.{WritesCall, term_calls, MemberNames, NamesType, InfersHere, IsInferredType}
use Rattle.lw_grammar.specs.Written as written
use Rattle.lw_faults.specs.Finding.{Finds, OfSome}
use Rattle.lw_types.specs.declared.naming.mentions.Role.{Role}
use Rattle.lw_types.specs.declared.naming.mentions.Role.TheVariants.{InfersType, CallsRule, NamesType as NamesAType, WantsNameRule}
use Rattle.lw_types.specs.NameUses.{NameUse, name_use, value_uses, action_role, leaf_uses, unless_fragment, result_uses, rule_uses, called_uses, terminal_uses, named_uses, member_uses, attribute_uses, interface_uses, union_uses, uses}
use Rattle.lw_types.specs.Wrong.{InfersName}
use Rattle.lw_types.proofs.Membership.{in_nothing, here, in_cons, in_one, map_has, in_map, in_flat_map, flat_map_has}
use Rattle.lw_types.proofs.Gathering.{has_found}

-- what a fragment does not infer
whole : (fragment : Bool) (one s : NameUse) → Contains (unless_fragment fragment one) s → (fragment ≡ false) × (one ≡ s)
whole true one s has = absurd (in_nothing has)
whole false one s has = (refl, in_one one has)

whole_has : (fragment : Bool) (one : NameUse) → fragment ≡ false → Contains (unless_fragment fragment one) one
whole_has fragment one is = let P : Bool → Type 0 = λ b. Contains (unless_fragment b one) one in subst P (sym is) (here one [])

-- what a member names
named_by : (file : ℕ) (m : Member) (s : NameUse) → Contains (member_uses file m) s → (t : Span) × (name : List ℕ) × MemberNames m t name × (name_use NamesAType file name t ≡ s)
named_by file (member.Named name t) s has = (t, name, written.named, in_one (name_use NamesAType file name t) has)
named_by file (member.Refers name t) s has = (t, name, written.refers, in_one (name_use NamesAType file name t) has)
named_by file (member.Plain primitive) s has = absurd (in_nothing has)
named_by file (member.Literal text) s has = absurd (in_nothing has)

names_it : (file : ℕ) {m : Member} {t : Span} {name : List ℕ} → MemberNames m t name → Contains (member_uses file m) (name_use NamesAType file name t)
names_it file (written.named {s} {name}) = here (name_use NamesAType file name s) []
names_it file (written.refers {s} {name}) = here (name_use NamesAType file name s) []

module _ (g : Grammar) where
  -- a rule or a terminal is called here
  pub data CallsHere : ℕ → Span → List ℕ → Type 0 where
    by_rule : {s : Span} {name : List ℕ} (rule : Rule) → Contains g.rules rule → WritesCall rule s name → CallsHere rule.file s name
    by_terminal : {s : Span} {name : List ℕ} (terminal : Terminal) → Contains g.terminals terminal → Contains (term_calls terminal.body) (name, s) →
        CallsHere terminal.file s name

  -- a cross-reference here names no rule
  pub data WantsHere : ℕ → Span → List ℕ → Type 0 where
    wants : {s : Span} {wanted : List ℕ} (rule : Rule) (p : List ℕ) (op : Op) (v : Value0) (t : Span) → Contains g.rules rule →
        Contains (leaves rule.body) (leaf.Assign p op v t) → Contains (value_leaves v) (leaf.Cross wanted None s) → WantsHere rule.file s wanted

  -- what the definitions say of a name that does this here
  abbrev pub IsSaid : Role → ℕ → Span → List ℕ → Type 0
  IsSaid InfersType file s name = InfersHere g file s name
  IsSaid CallsRule file s name = CallsHere file s name
  IsSaid NamesAType file s name = NamesType g file s name
  IsSaid WantsNameRule file s name = WantsHere file s name

  abbrev pub Said : NameUse → Type 0
  Said s = IsSaid s.role s.file s.place s.name

  -- ---- what stands in the list is said

  module _ (rule : Rule) (has : Contains g.rules rule) where
    result_said : (r : RuleResult) → rule.result ≡ r → (s : NameUse) → Contains (result_uses rule r) s → Said s
    result_said Own is s stands =
        let one = whole rule.is_fragment (name_use InfersType rule.file rule.name rule.span) s stands in subst Said one.1 (written.own rule has one.0 is)
    result_said (Returns name t) is s stands = subst Said (in_one (name_use NamesAType rule.file name t) stands) (written.returned rule has is)
    result_said (Gives primitive) is s stands = absurd (in_nothing stands)
    result_said (Infers name t) is s stands =
        let one = whole rule.is_fragment (name_use InfersType rule.file name t) s stands in subst Said one.1 (written.infers rule has one.0 is)

    module _ (p : List ℕ) (op : Op) (v : Value0) (t : Span) (at : Contains (leaves rule.body) (leaf.Assign p op v t)) where
      crossing_said : (wanted : List ℕ) (r : Option (List ℕ)) (u : Span) → Contains (value_leaves v) (leaf.Cross wanted r u) → (s : NameUse) →
          Contains (value_uses rule.file (leaf.Cross wanted r u)) s → Said s
      crossing_said wanted (Some name) u inside s stands =
          elim (in_cons (name_use NamesAType rule.file wanted u) (name_use CallsRule rule.file name u ∷ []) stands) [
            | inl is ↦ subst Said is (written.crossed_by rule p op v t name has at inside)
            | inr later ↦ subst Said (in_one (name_use CallsRule rule.file name u) later) (by_rule rule has (written.crossed p op v t wanted at inside))
          ]
      crossing_said wanted None u inside s stands =
          elim (in_cons (name_use NamesAType rule.file wanted u) (name_use WantsNameRule rule.file wanted u ∷ []) stands) [
            | inl is ↦ subst Said is (written.crossed rule p op v t has at inside)
            | inr later ↦ subst Said (in_one (name_use WantsNameRule rule.file wanted u) later) (wants rule p op v t has at inside)
          ]

      value_said : (part : ValueLeaf) → Contains (value_leaves v) part → (s : NameUse) → Contains (value_uses rule.file part) s → Said s
      value_said (leaf.Literal text u) inside s stands = absurd (in_nothing stands)
      value_said (leaf.Calls name u) inside s stands =
          subst Said (in_one (name_use CallsRule rule.file name u) stands) (by_rule rule has (written.assigned p op v t at inside))
      value_said (leaf.Cross wanted r u) inside s stands = crossing_said wanted r u inside s stands

    action_said : (a : Action) → Contains (leaves rule.body) (leaf.Act a) → (infers : Bool) → a.infers ≡ infers → (s : NameUse) →
        Contains (name_use (action_role infers) rule.file a.type_name a.span ∷ []) s → Said s
    action_said a at true is s stands = subst Said (in_one (name_use InfersType rule.file a.type_name a.span) stands) (written.acted rule a has at is)
    action_said a at false is s stands = subst Said (in_one (name_use NamesAType rule.file a.type_name a.span) stands) (written.acted rule a has at is)

    leaf_said : (l : Leaf) → Contains (leaves rule.body) l → (s : NameUse) → Contains (leaf_uses rule.file l) s → Said s
    leaf_said (leaf.Keyword text t) at s stands = absurd (in_nothing stands)
    leaf_said (leaf.Call name t) at s stands = subst Said (in_one (name_use CallsRule rule.file name t) stands) (by_rule rule has (written.plain at))
    leaf_said (leaf.Assign p op v t) at s stands =
        let part = in_flat_map (value_uses rule.file) (value_leaves v) s stands in value_said p op v t at part.0 part.1 s part.2
    leaf_said (leaf.Act a) at s stands = action_said a at a.infers refl s stands

    rule_said : (s : NameUse) → Contains (rule_uses rule) s → Said s
    rule_said s stands =
        let results = result_uses rule rule.result in
        let all = flat_map (leaf_uses rule.file) (leaves rule.body) in
        elim (Contains-append_cases results all s stands) [
          | inl is ↦ result_said rule.result refl s is
          | inr is ↦ let one = in_flat_map (leaf_uses rule.file) (leaves rule.body) s is in leaf_said one.0 one.1 s one.2
        ]

  terminal_said : (terminal : Terminal) → Contains g.terminals terminal → (s : NameUse) → Contains (terminal_uses terminal) s → Said s
  terminal_said terminal has s stands =
      let call = in_flat_map (called_uses terminal.file) (term_calls terminal.body) s stands in
      subst Said (in_one (name_use CallsRule terminal.file call.0.0 call.0.1) call.2) (by_terminal terminal has call.1)

  module _ (interface : Interface) (has : Contains g.interfaces interface) where
    attribute_said : (attribute : Attribute) → Contains interface.attributes attribute → (s : NameUse) → Contains (attribute_uses interface.file attribute) s → Said s
    attribute_said attribute at s stands =
        let m = in_flat_map (member_uses interface.file) attribute.members s stands in
        let named = named_by interface.file m.0 s m.2 in
        subst Said named.3 (written.in_attribute interface attribute m.0 has at m.1 named.2)

    interface_said : (s : NameUse) → Contains (interface_uses interface) s → Said s
    interface_said s stands =
        let above = flat_map (named_uses interface.file) interface.above in
        let attributes = flat_map (attribute_uses interface.file) interface.attributes in
        elim (Contains-append_cases above attributes s stands) [
          | inl is ↦ let named = in_flat_map (named_uses interface.file) interface.above s is in
              subst Said (in_one (name_use NamesAType interface.file named.0.0 named.0.1) named.2) (written.extending_type interface has named.1)
          | inr is ↦ let one = in_flat_map (attribute_uses interface.file) interface.attributes s is in attribute_said one.0 one.1 s one.2
        ]

  union_said : (union : UnionDef) → Contains g.unions union → (s : NameUse) → Contains (union_uses union) s → Said s
  union_said union has s stands =
      let m = in_flat_map (member_uses union.file) union.members s stands in
      let named = named_by union.file m.0 s m.2 in
      subst Said named.3 (written.in_union union m.0 has m.1 named.2)

  abbrev of_rules : List NameUse
  of_rules = flat_map rule_uses g.rules

  abbrev of_terminals : List NameUse
  of_terminals = flat_map terminal_uses g.terminals

  abbrev of_interfaces : List NameUse
  of_interfaces = flat_map interface_uses g.interfaces

  abbrev of_unions : List NameUse
  of_unions = flat_map union_uses g.unions

  pub said : (s : NameUse) → Contains (uses g) s → Said s
  said s stands = elim (Contains-append_cases ((of_rules ++ of_terminals) ++ of_interfaces) of_unions s stands) [
    | inl others ↦ elim (Contains-append_cases (of_rules ++ of_terminals) of_interfaces s others) [
      | inl called ↦ elim (Contains-append_cases of_rules of_terminals s called) [
        | inl is ↦ let one = in_flat_map rule_uses g.rules s is in rule_said one.0 one.1 s one.2
        | inr is ↦ let one = in_flat_map terminal_uses g.terminals s is in terminal_said one.0 one.1 s one.2
      ]
      | inr is ↦ let one = in_flat_map interface_uses g.interfaces s is in interface_said one.0 one.1 s one.2
    ]
    | inr is ↦ let one = in_flat_map union_uses g.unions s is in union_said one.0 one.1 s one.2
  ]

  -- ---- what is said stands in the list

  rule_has : (rule : Rule) → Contains g.rules rule → (s : NameUse) → Contains (rule_uses rule) s → Contains (uses g) s
  rule_has rule has s inside =
      Contains-append_left ((of_rules ++ of_terminals) ++ of_interfaces) of_unions s
      (Contains-append_left (of_rules ++ of_terminals) of_interfaces s (Contains-append_left of_rules of_terminals s (flat_map_has rule_uses g.rules rule s has inside)))

  terminal_has : (terminal : Terminal) → Contains g.terminals terminal → (s : NameUse) → Contains (terminal_uses terminal) s → Contains (uses g) s
  terminal_has terminal has s inside =
      Contains-append_left ((of_rules ++ of_terminals) ++ of_interfaces) of_unions s
      (Contains-append_left (of_rules ++ of_terminals) of_interfaces s
      (Contains-append_right of_rules of_terminals s (flat_map_has terminal_uses g.terminals terminal s has inside)))

  interface_has : (interface : Interface) → Contains g.interfaces interface → (s : NameUse) → Contains (interface_uses interface) s → Contains (uses g) s
  interface_has interface has s inside =
      Contains-append_left ((of_rules ++ of_terminals) ++ of_interfaces) of_unions s
      (Contains-append_right (of_rules ++ of_terminals) of_interfaces s (flat_map_has interface_uses g.interfaces interface s has inside))

  union_has : (union : UnionDef) → Contains g.unions union → (s : NameUse) → Contains (union_uses union) s → Contains (uses g) s
  union_has union has s inside =
      Contains-append_right ((of_rules ++ of_terminals) ++ of_interfaces) of_unions s (flat_map_has union_uses g.unions union s has inside)

  module _ (rule : Rule) (has : Contains g.rules rule) where
    result_has : (s : NameUse) → Contains (result_uses rule rule.result) s → Contains (uses g) s
    result_has s inside =
        let results = result_uses rule rule.result in
        let all = flat_map (leaf_uses rule.file) (leaves rule.body) in
        rule_has rule has s (Contains-append_left results all s inside)

    leaf_has : (l : Leaf) → Contains (leaves rule.body) l → (s : NameUse) → Contains (leaf_uses rule.file l) s → Contains (uses g) s
    leaf_has l at s inside =
        let results = result_uses rule rule.result in
        let all = flat_map (leaf_uses rule.file) (leaves rule.body) in
        rule_has rule has s (Contains-append_right results all s (flat_map_has (leaf_uses rule.file) (leaves rule.body) l s at inside))

    part_has : (p : List ℕ) (op : Op) (v : Value0) (t : Span) → Contains (leaves rule.body) (leaf.Assign p op v t) → (part : ValueLeaf) →
        Contains (value_leaves v) part → (s : NameUse) → Contains (value_uses rule.file part) s → Contains (uses g) s
    part_has p op v t at part inside s stands =
        leaf_has (leaf.Assign p op v t) at s (flat_map_has (value_uses rule.file) (value_leaves v) part s inside stands)

    own_has : rule.is_fragment ≡ false → rule.result ≡ Own → Contains (uses g) (name_use InfersType rule.file rule.name rule.span)
    own_has not_fragment is =
        let one = name_use InfersType rule.file rule.name rule.span in
        let P : RuleResult → Type 0 = λ r. Contains (result_uses rule r) one in result_has one (subst P (sym is) (whole_has rule.is_fragment one not_fragment))

    infers_has : (name : List ℕ) (s : Span) → rule.is_fragment ≡ false → rule.result ≡ Infers name s → Contains (uses g) (name_use InfersType rule.file name s)
    infers_has name s not_fragment is =
        let one = name_use InfersType rule.file name s in
        let P : RuleResult → Type 0 = λ r. Contains (result_uses rule r) one in result_has one (subst P (sym is) (whole_has rule.is_fragment one not_fragment))

    returns_has : (name : List ℕ) (s : Span) → rule.result ≡ Returns name s → Contains (uses g) (name_use NamesAType rule.file name s)
    returns_has name s is =
        let one = name_use NamesAType rule.file name s in
        let P : RuleResult → Type 0 = λ r. Contains (result_uses rule r) one in result_has one (subst P (sym is) (here one []))

    act_has : (a : Action) (infers : Bool) → Contains (leaves rule.body) (leaf.Act a) → a.infers ≡ infers →
        Contains (uses g) (name_use (action_role infers) rule.file a.type_name a.span)
    act_has a infers at is =
        let one = name_use (action_role infers) rule.file a.type_name a.span in
        let P : Bool → Type 0 = λ b. Contains (name_use (action_role b) rule.file a.type_name a.span ∷ []) one in
        leaf_has (leaf.Act a) at one (subst P (sym is) (here one []))

    call_has : {s : Span} {name : List ℕ} → WritesCall rule s name → Contains (uses g) (name_use CallsRule rule.file name s)
    call_has (written.plain {s} {name} at) = leaf_has (leaf.Call name s) at (name_use CallsRule rule.file name s) (here (name_use CallsRule rule.file name s) [])
    call_has (written.assigned {s} {name} p op v t at inside) =
        part_has p op v t at (leaf.Calls name s) inside (name_use CallsRule rule.file name s) (here (name_use CallsRule rule.file name s) [])
    call_has (written.crossed {s} {name} p op v t wanted at inside) =
        let one = name_use CallsRule rule.file name s in
        part_has p op v t at (leaf.Cross wanted (Some name) s) inside one (there (name_use NamesAType rule.file wanted s) (one ∷ []) one (here one []))

  module _ (interface : Interface) (has : Contains g.interfaces interface) where
    above_has : (name : List ℕ) (s : Span) → Contains interface.above (name, s) → Contains (uses g) (name_use NamesAType interface.file name s)
    above_has name s at =
        let above = flat_map (named_uses interface.file) interface.above in
        let attributes = flat_map (attribute_uses interface.file) interface.attributes in
        let one = name_use NamesAType interface.file name s in
        interface_has interface has one
        (Contains-append_left above attributes one (flat_map_has (named_uses interface.file) interface.above (name, s) one at (here one [])))

    attribute_has : (attribute : Attribute) (m : Member) (name : List ℕ) (s : Span) → Contains interface.attributes attribute → Contains attribute.members m →
        MemberNames m s name → Contains (uses g) (name_use NamesAType interface.file name s)
    attribute_has attribute m name s at inside named =
        let above = flat_map (named_uses interface.file) interface.above in
        let attributes = flat_map (attribute_uses interface.file) interface.attributes in
        let one = name_use NamesAType interface.file name s in
        interface_has interface has one
        (Contains-append_right above attributes one
        (flat_map_has (attribute_uses interface.file) interface.attributes attribute one at
        (flat_map_has (member_uses interface.file) attribute.members m one inside (names_it interface.file named))))

  member_has : (union : UnionDef) → Contains g.unions union → (m : Member) (name : List ℕ) (s : Span) → Contains union.members m → MemberNames m s name →
      Contains (uses g) (name_use NamesAType union.file name s)
  member_has union has m name s inside named =
      let one = name_use NamesAType union.file name s in
      union_has union has one (flat_map_has (member_uses union.file) union.members m one inside (names_it union.file named))

  pub inferred_stands : {file : ℕ} {s : Span} {name : List ℕ} → InfersHere g file s name → Contains (uses g) (name_use InfersType file name s)
  inferred_stands (written.own rule has not_fragment is) = own_has rule has not_fragment is
  inferred_stands (written.infers {s} {name} rule has not_fragment is) = infers_has rule has name s not_fragment is
  inferred_stands (written.acted rule a has at is) = act_has rule has a true at is

  pub called_stands : {file : ℕ} {s : Span} {name : List ℕ} → CallsHere file s name → Contains (uses g) (name_use CallsRule file name s)
  called_stands (by_rule rule has writes) = call_has rule has writes
  called_stands (by_terminal {s} {name} terminal has at) =
      let one = name_use CallsRule terminal.file name s in
      terminal_has terminal has one (flat_map_has (called_uses terminal.file) (term_calls terminal.body) (name, s) one at (here one []))

  pub named_stands : {file : ℕ} {s : Span} {name : List ℕ} → NamesType g file s name → Contains (uses g) (name_use NamesAType file name s)
  named_stands (written.returned {s} {name} rule has is) = returns_has rule has name s is
  named_stands (written.extending_type {s} {name} interface has at) = above_has interface has name s at
  named_stands (written.in_attribute {s} {name} interface attribute m has at inside named) = attribute_has interface has attribute m name s at inside named
  named_stands (written.in_union {s} {name} union m has inside named) = member_has union has m name s inside named
  named_stands (written.crossed {s} {name} rule p op v t has at inside) =
      let one = name_use NamesAType rule.file name s in part_has rule has p op v t at (leaf.Cross name None s) inside one (here one (name_use WantsNameRule rule.file name s ∷ []))
  named_stands (written.crossed_by {s} {name} rule p op v t by has at inside) =
      let one = name_use NamesAType rule.file name s in part_has rule has p op v t at (leaf.Cross name (Some by) s) inside one (here one (name_use CallsRule rule.file by s ∷ []))
  named_stands (written.acted rule a has at is) = act_has rule has a false at is

  pub wanted_stands : {file : ℕ} {s : Span} {name : List ℕ} → WantsHere file s name → Contains (uses g) (name_use WantsNameRule file name s)
  wanted_stands (wants {s} {wanted} rule p op v t has at inside) =
      let one = name_use WantsNameRule rule.file wanted s in
      part_has rule has p op v t at (leaf.Cross wanted None s) inside one (there (name_use NamesAType rule.file wanted s) (one ∷ []) one (here one []))

  -- ---- the names that are inferred

  pub inferred_known : (names : List (List ℕ)) → Finds (OfSome InfersName (uses g)) [] names → (name : List ℕ) → Contains names name ↔ IsInferredType g name
  inferred_known names finds name = (λ has. into ((has_found finds name).0 has), λ is. (has_found finds name).1 (from is))
    where
      into : OfSome InfersName (uses g) name → IsInferredType g name
      into (s, stands, (is, same)) =
          let P : Role → Type 0 = λ role. IsSaid role s.file s.place s.name in
          let Q : List ℕ → Type 0 = λ n. InfersHere g s.file s.place n in
          (s.file, s.place, subst Q (sym same) (subst P is (said s stands)))

      from : IsInferredType g name → OfSome InfersName (uses g) name
      from (file, s, infers) = (name_use InfersType file name s, inferred_stands infers, (refl, refl))
