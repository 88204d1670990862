-- The types and the properties of what stands in a rule are among those of the grammar, and so have numbers.
use Rattle.std.proofs.Common.{◌≡◌, ℕ, ◌++◌, List, Contains, map, refl, sym, subst, arith}
use Rattle.std.specs.List.{flat_map}
use Rattle.std.proofs.lemmas.List.Elements.{Contains-append_right}
use Rattle.lw_base.specs.declared.token.Span.{Span}
use Rattle.lw_grammar.specs.declared.grammar.Grammar.{Grammar}
use Rattle.lw_grammar.specs.declared.declared_types.Attribute.{Attribute}
use Rattle.lw_grammar.specs.declared.declared_types.Interface.{Interface}
use Rattle.lw_grammar.specs.declared.declared_types.UnionDef.{UnionDef}
use Rattle.lw_grammar.specs.declared.rule.Action.{Action}
use Rattle.lw_grammar.specs.declared.rule.Element.{Element, out-Element}
use Rattle.lw_grammar.specs.declared.rule.Element.TheOpen as layer
use Rattle.lw_grammar.specs.declared.rule.Op.{Op}
use Rattle.lw_grammar.specs.declared.rule.Rule.{Rule}
use Rattle.lw_grammar.specs.declared.rule.Value0.{Value0}
use Rattle.lw_grammar.specs.Leaves.{Leaf, leaves}
use Rattle.lw_grammar.specs.Leaves as leaf
use Rattle.lw_grammar.proofs.FirstUses.{Contains-first_uses}
use Rattle.lw_grammar.proofs.LeafLemmas.{leaves_by}
use Rattle.lw_kinds.proofs.TokenCalls.{got_there}
use Rattle.lw_look.specs.Sites.{rule_of, Body}
use Rattle.lw_look.proofs.Reaching.{in_rule}
use Rattle.lw_numbers.specs.Numbering.{type_names, property_names, rule_types, result_types, leaf_types, leaf_properties, put_property, if_whole}
use Rattle.lw_program.specs.Drafted.{StandsSomewhere}
use Rattle.lw_base.proofs.Lists.{flat_map_has}

module _ (g : Grammar) (e : Element) (l : Leaf) (here : Contains (leaves e) l) where
  -- the types and the properties of a leaf of an element
  leaf_type : StandsSomewhere g (Body e) → (name : List ℕ) → Contains (leaf_types l) name → Contains (type_names g) name
  leaf_type (s, stands) name has =
      let (rule, there, within) = in_rule g stands in
      let declared = map (λ (i : Interface). i.name) g.interfaces ++ map (λ (u : UnionDef). u.name) g.unions in
      Contains-first_uses (declared ++ flat_map rule_types g.rules) name
      (Contains-append_right declared (flat_map rule_types g.rules) name
      (flat_map_has rule_types g.rules rule name (got_there g.rules (rule_of s) rule there)
      (Contains-append_right (if_whole rule.is_fragment (result_types rule rule.result)) (flat_map leaf_types (leaves rule.body)) name
      (flat_map_has leaf_types (leaves rule.body) l name (within l here) has))))

  leaf_property : StandsSomewhere g (Body e) → (name : List ℕ) → Contains (leaf_properties l) name → Contains (property_names g) name
  leaf_property (s, stands) name has =
      let (rule, there, within) = in_rule g stands in
      let declared = flat_map (λ (i : Interface). map (λ (a : Attribute). a.name) i.attributes) g.interfaces in
      let written = λ (rule : Rule). flat_map leaf_properties (leaves rule.body) in
      Contains-first_uses (declared ++ flat_map written g.rules) name
      (Contains-append_right declared (flat_map written g.rules) name
      (flat_map_has written g.rules rule name (got_there g.rules (rule_of s) rule there) (flat_map_has leaf_properties (leaves rule.body) l name (within l here) has)))

module _ (g : Grammar) (e : Element) where
  action_leaf : (a : Action) → out-Element e ≡ layer.Act a → Contains (leaves e) (leaf.Act a)
  action_leaf a is = subst (λ ls. Contains ls (leaf.Act a)) (sym (leaves_by e (layer.Act a) is)) (0, omega arith, refl)

  pub type_of_action : (a : Action) → out-Element e ≡ layer.Act a → StandsSomewhere g (Body e) → Contains (type_names g) a.type_name
  type_of_action a is stands = leaf_type g e (leaf.Act a) (action_leaf a is) stands a.type_name (0, omega arith, refl)

  pub property_of_action : (a : Action) → out-Element e ≡ layer.Act a → StandsSomewhere g (Body e) → (name : List ℕ) → Contains (put_property a.put) name →
      Contains (property_names g) name
  property_of_action a is stands name has = leaf_property g e (leaf.Act a) (action_leaf a is) stands name has

  pub property_of_assignment : (p : List ℕ) (op : Op) (v : Value0) (s : Span) → out-Element e ≡ layer.Assign p op v s → StandsSomewhere g (Body e) →
      Contains (property_names g) p
  property_of_assignment p op v s is stands =
      leaf_property g e (leaf.Assign p op v s)
      (subst (λ ls. Contains ls (leaf.Assign p op v s)) (sym (leaves_by e (layer.Assign p op v s) is)) (0, omega arith, refl)) stands p (0, omega arith, refl)
