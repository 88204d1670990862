-- The types and properties that are written in a grammar have numbers, and so has each type that is known.
use Rattle.std.proofs.Common.{◌≡◌, ℕ, List, [], ◌∷◌, ◌++◌, map, Some, Bool, true, false, Contains, inl, inr, refl, sym, ◌∙◌, subst, true≢false}
use Rattle.std.specs.List.{flat_map}
use Rattle.std.specs.Cmp.Lexicographic.{nat_list_eq_equiv}
use Rattle.std.proofs.lemmas.Map.Views.{list_any-from_Contains, Contains-from_any}
use Rattle.std.proofs.lemmas.List.Elements.{Contains-append_left, Contains-append_right}
use Rattle.lw_base.specs.declared.token.Span.{Span}
use Rattle.lw_grammar.specs.declared.grammar.Grammar.{Grammar}
use Rattle.lw_grammar.specs.declared.rule.Op.{Op}
use Rattle.lw_grammar.specs.declared.rule.Rule.{Rule}
use Rattle.lw_grammar.specs.declared.rule.RuleResult.{RuleResult}
use Rattle.lw_grammar.specs.declared.rule.RuleResult.TheVariants as result
use Rattle.lw_grammar.specs.declared.rule.Action.{Action}
use Rattle.lw_grammar.specs.declared.rule.Value0.{Value0}
use Rattle.lw_grammar.specs.declared.declared_types.Interface.{Interface}
use Rattle.lw_grammar.specs.declared.declared_types.UnionDef.{UnionDef}
use Rattle.lw_grammar.specs.declared.declared_types.Attribute.{Attribute}
use Rattle.lw_grammar.specs.Leaves.{Leaf, Assign, Act, leaves}
use Rattle.lw_grammar.specs.Subtypes.{HasType, ResultNames}
use Rattle.lw_grammar.proofs.FirstUses.{stands_in, same_text, Contains-first_uses}
use Rattle.lw_faults.specs.Names.{UnknownType}
use Rattle.lw_faults.specs.Names as fault
use Rattle.lw_grammar.specs.Written.{NamesType, InfersHere, IsKnownType}
use Rattle.lw_grammar.specs.Written as written
use Rattle.lw_base.proofs.Lists.{place_of}
use Rattle.lw_numbers.specs.Numbering.{if_whole, put_property, result_types, leaf_types, rule_types, type_names, leaf_properties, property_names}
use Rattle.lw_reading.specs.Numbers.{IsNumberOfType, IsNumberOfProperty}
use Rattle.lw_reading.proofs.Listed.{alone, in_flat, mapped}

module _ (g : Grammar) where
  -- ---- types

  abbrev declared_types : List (List ℕ)
  declared_types = map (λ (i : Interface). i.name) g.interfaces ++ map (λ (u : UnionDef). u.name) g.unions

  abbrev written_types : List (List ℕ)
  written_types = declared_types ++ flat_map rule_types g.rules

  pub type_number : (name : List ℕ) → Contains written_types name → (n : ℕ) × IsNumberOfType g name n
  type_number name has = place_of (type_names g) name (Contains-first_uses written_types name has)

  in_rule : (rule : Rule) (name : List ℕ) → Contains g.rules rule → Contains (rule_types rule) name → Contains written_types name
  in_rule rule name has within = Contains-append_right declared_types (flat_map rule_types g.rules) name (in_flat rule_types g.rules rule name has within)

  act_type : (rule : Rule) (a : Action) → Contains g.rules rule → Contains (leaves rule.body) (Act a) → Contains written_types a.type_name
  act_type rule a has within =
      in_rule rule a.type_name has
      (Contains-append_right (if_whole rule.is_fragment (result_types rule rule.result)) (flat_map leaf_types (leaves rule.body)) a.type_name
      (in_flat leaf_types (leaves rule.body) (Act a) a.type_name within (alone a.type_name)))

  result_type : (rule : Rule) (name : List ℕ) → Contains g.rules rule → rule.is_fragment ≡ false → Contains (result_types rule rule.result) name →
      Contains written_types name
  result_type rule name has is within =
      in_rule rule name has
      (Contains-append_left (if_whole rule.is_fragment (result_types rule rule.result)) (flat_map leaf_types (leaves rule.body)) name
      (subst (λ b. Contains (if_whole b (result_types rule rule.result)) name) (sym is) within))

  pub rule_type : (rule : Rule) (name : List ℕ) → Contains g.rules rule → HasType g rule name → Contains written_types name
  rule_type rule name has type = result_type rule name has type.0 (by rule.result type.1)
    where
      by : (r : RuleResult) → ResultNames g r rule.name name → Contains (result_types rule r) name
      by result.Own is = subst (λ n. Contains (rule.name ∷ []) n) (sym is) (alone rule.name)
      by (result.Returns other s) is = subst (λ n. Contains (other ∷ []) n) (sym is) (alone other)
      by (result.Gives p) is = absurd is
      by (result.Infers other s) is = subst (λ n. Contains (other ∷ []) n) (sym is) (alone other)

  pub action_number : (rule : Rule) (a : Action) → Contains g.rules rule → Contains (leaves rule.body) (Act a) → (n : ℕ) × IsNumberOfType g a.type_name n
  action_number rule a has within = type_number a.type_name (act_type rule a has within)

  inferred : {file : ℕ} {s : Span} {name : List ℕ} → InfersHere g file s name → Contains written_types name
  inferred (written.own rule has is same) =
      result_type rule rule.name has is (subst (λ r. Contains (result_types rule r) rule.name) (sym same) (alone rule.name))
  inferred (written.infers {name} rule has is same) =
      result_type rule name has is (subst (λ r. Contains (result_types rule r) name) (sym same) (alone name))
  inferred (InfersHere.acted rule a has within is) = act_type rule a has within

  known : (name : List ℕ) → IsKnownType g name → Contains written_types name
  known name (inl (inl (k, interface, inside, at, is))) =
      Contains-append_left declared_types (flat_map rule_types g.rules) name
      (Contains-append_left (map (λ (i : Interface). i.name) g.interfaces) (map (λ (u : UnionDef). u.name) g.unions) name
      (subst (λ n. Contains (map (λ (i : Interface). i.name) g.interfaces) n) is (mapped (λ (i : Interface). i.name) g.interfaces interface (k, inside, at))))
  known name (inl (inr (k, union, inside, at, is))) =
      Contains-append_left declared_types (flat_map rule_types g.rules) name
      (Contains-append_right (map (λ (i : Interface). i.name) g.interfaces) (map (λ (u : UnionDef). u.name) g.unions) name
      (subst (λ n. Contains (map (λ (u : UnionDef). u.name) g.unions) n) is (mapped (λ (u : UnionDef). u.name) g.unions union (k, inside, at))))
  known name (inr (file, s, here)) = inferred here

  -- a type that is named has a number, where none is unknown
  pub named_number : {file : ℕ} {s : Span} (name : List ℕ) → ((file : ℕ) (s : Span) (name : List ℕ) → ¬ UnknownType g file s name) → NamesType g file s name →
      (n : ℕ) × IsNumberOfType g name n
  named_number {file} {s} name none names = by (stands_in name written_types) refl
    where
      by : (b : Bool) → stands_in name written_types ≡ b → (n : ℕ) × IsNumberOfType g name n
      by true is = type_number name (Contains-from_any same_text name written_types is)
      by false is =
          absurd (none file s name (fault.unknown names (λ has. true≢false (sym (list_any-from_Contains nat_list_eq_equiv name written_types (known name has)) ∙ is))))

  -- ---- properties

  abbrev attribute_names : List (List ℕ)
  attribute_names = flat_map (λ (i : Interface). map (λ (a : Attribute). a.name) i.attributes) g.interfaces

  abbrev properties_of : Rule → List (List ℕ)
  properties_of rule = flat_map leaf_properties (leaves rule.body)

  property_number : (rule : Rule) (l : Leaf) (name : List ℕ) → Contains g.rules rule → Contains (leaves rule.body) l → Contains (leaf_properties l) name →
      (n : ℕ) × IsNumberOfProperty g name n
  property_number rule l name has within is =
      place_of (property_names g) name
      (Contains-first_uses (attribute_names ++ flat_map properties_of g.rules) name
      (Contains-append_right attribute_names (flat_map properties_of g.rules) name
      (in_flat properties_of g.rules rule name has (in_flat leaf_properties (leaves rule.body) l name within is))))

  pub assigned_number : (rule : Rule) (p : List ℕ) (op : Op) (v : Value0) (s : Span) → Contains g.rules rule → Contains (leaves rule.body) (Assign p op v s) →
      (n : ℕ) × IsNumberOfProperty g p n
  assigned_number rule p op v s has within = property_number rule (Assign p op v s) p has within (alone p)

  pub taken_number : (rule : Rule) (a : Action) (name : List ℕ) (is_list : Bool) → Contains g.rules rule → Contains (leaves rule.body) (Act a) →
      a.put ≡ Some (name, is_list) → (n : ℕ) × IsNumberOfProperty g name n
  taken_number rule a name is_list has within is =
      property_number rule (Act a) name has within (subst (λ put. Contains (put_property put) name) (sym is) (alone name))
