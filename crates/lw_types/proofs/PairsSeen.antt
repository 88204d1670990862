-- The grammar with a union, a fragment and an action: what is seen at its leaves, and the properties of its types.
use Rattle.std.proofs.Common.{◌≡◌, ℕ, List, [], ◌∷◌, Some, None, true, false, cond, codes, position, bytes_eq, slice_get, length, ◌<◌, Contains, refl, sym, ap, subst, arith}
use Rattle.std.specs.List.{find}
use Rattle.std.specs.Option.{option_map_or}
use Rattle.std.proofs.lemmas.Option.{slice_get_within}
use Rattle.lw_grammar.specs.declared.rule.Op.TheVariants.{One}
use Rattle.lw_grammar.specs.declared.rule.Value0.TheVariants as value
use Rattle.lw_grammar.specs.declared.terminal.Primitive.TheVariants.{Text}
use Rattle.lw_grammar.specs.declared.declared_types.Attribute.{Attribute}
use Rattle.lw_grammar.specs.declared.declared_types.Interface.{Interface}
use Rattle.lw_grammar.specs.declared.declared_types.Member.TheVariants as member
use Rattle.lw_grammar.specs.declared.declared_types.ValueKind.TheVariants.{Plain}
use Rattle.lw_grammar.specs.Leaves.{leaves}
use Rattle.lw_grammar.specs.Leaves as leaf
use Rattle.lw_grammar.specs.Named.{IsInterface, declared_interface, declared_union}
use Rattle.lw_grammar.specs.Nodes.{MakesNodes, assigns}
use Rattle.lw_grammar.specs.Subtypes.{IsDeclared, by_interface, by_union}
use Rattle.lw_grammar.proofs.LeafLemmas.{values-Call}
use Rattle.lw_grammar.proofs.Every.{differ, not_meant}
use Rattle.lw_faults.specs.Attributes as kind
use Rattle.lw_faults.specs.Worked.{no_place, calls_id, terminal_id}
use Rattle.lw_grammar.specs.Written as written
use Rattle.lw_numbers.specs.Numbering.{type_names}
use Rattle.lw_flow.specs.declared.before.Before.{Before}
use Rattle.lw_flow.specs.Recorded.{AreWaysOf}
use Rattle.lw_properties.specs.Mixing.{IsFree}
use Rattle.lw_types.specs.FirstSeen as seen
use Rattle.lw_types.specs.Values.{PartGives, PartsGive, nodes_of, numbered}
use Rattle.lw_types.specs.Values as give
use Rattle.lw_types.specs.Sightings.{Sighting, SeenAtLeaf, SeenInRules}
use Rattle.lw_types.specs.Having.{is_new, is_new_attribute, AreDeclaredProperties, ArePropertiesOf}
use Rattle.lw_types.specs.Having as have
use Rattle.lw_types.specs.Worked.{property, written_attribute, base, base_or_leaf, base_entry, base_rule, pair_action, pair_rule, pairs}
use Rattle.lw_types.proofs.Firsts.{not_in_none}
use Rattle.lw_types.proofs.Currents.{only_type, come_to}
use Rattle.lw_types.proofs.Alike.{one_seen, all_seen, SeenAs, EachAs, at_call, at_assignment, at_action, in_rule, in_rules, inferred_by}
use Rattle.lw_types.proofs.PairsTypes.{x_leaf, name_leaf, y_leaf, t_leaf, pair_leaf, leaf_call, tail_call, of_entry, of_base, of_pair, of_tail, base_named, id_named, is_base, is_any}
use Rattle.lw_types.proofs.PairsWays.{type_numbers, property_numbers, leaf_type, pair_type, x_current, name_current, act_current, y_current, t_current}

-- ---- the values

a_text : PartsGive pairs (leaf.value_leaves calls_id) (Plain Text ∷ [])
a_text =
    subst (λ ls. PartsGive pairs ls (Plain Text ∷ [])) (sym (values-Call (codes "ID") no_place))
    (give.more (give.value (kind.Plain Text) (kind.terminal 0 terminal_id id_named)) give.none)

base_makes_nodes : MakesNodes pairs base_rule
base_makes_nodes = assigns (codes "name") One calls_id no_place (subst (λ ls. Contains ls name_leaf) (sym of_base) (0, omega arith, refl))

a_base : PartsGive pairs (leaf.value_leaves (value.Call (codes "Named") no_place)) (nodes_of 0 ∷ [])
a_base =
    subst (λ ls. PartsGive pairs ls (nodes_of 0 ∷ [])) (sym (values-Call (codes "Named") no_place))
    (give.more
    (subst (PartGives pairs (leaf.Calls (codes "Named") no_place)) (ap (λ names. numbered nodes_of (position (bytes_eq (codes "Base")) names)) type_numbers)
    (give.value (kind.NodesOf (codes "Base")) (kind.node 1 base_rule base_named base_makes_nodes (refl, refl)))) give.none)

-- ---- what is seen

abbrev entry_told : List (List Sighting)
entry_told = one_seen 2 1 false (nodes_of 0) ∷ [] ∷ []

abbrev base_told : List (List Sighting)
base_told = one_seen 0 0 false (Plain Text) ∷ []

abbrev pair_told : List (List Sighting)
pair_told = [] ∷ one_seen 4 2 false (nodes_of 3) ∷ one_seen 4 3 false (Plain Text) ∷ []

abbrev tail_told : List (List Sighting)
tail_told = one_seen 3 4 true (Plain Text) ∷ []

abbrev all_told : List (List Sighting)
all_told = all_seen entry_told ∷ all_seen base_told ∷ all_seen pair_told ∷ all_seen tail_told ∷ []

leaf_below : 3 < length (type_names pairs)
leaf_below = slice_get_within (type_names pairs) 3 (codes "Leaf") leaf_type.there

module _ {rows : List (List Before)} (are : AreWaysOf pairs rows) where
  in_entry : (row : List Before) → slice_get rows 0 ≡ Some row →
      EachAs pairs (SeenAtLeaf pairs) (λ i entry. slice_get row i ≡ Some entry) (x_leaf ∷ leaf_call ∷ []) entry_told
  in_entry row in_rows = (
    λ entry at.
        at_assignment pairs (nodes_of 0 ∷ []) a_base (ap (position (bytes_eq (codes "x"))) property_numbers) (only_type pairs are in_rows at x_current),
    (λ entry at. at_call pairs, tt),
  )

  in_base : (row : List Before) → slice_get rows 1 ≡ Some row →
      EachAs pairs (SeenAtLeaf pairs) (λ i entry. slice_get row i ≡ Some entry) (name_leaf ∷ []) base_told
  in_base row in_rows = (
    λ entry at.
        at_assignment pairs (Plain Text ∷ []) a_text (ap (position (bytes_eq (codes "name"))) property_numbers) (only_type pairs are in_rows at name_current),
    tt,
  )

  in_pair : (row : List Before) → slice_get rows 2 ≡ Some row →
      EachAs pairs (SeenAtLeaf pairs) (λ i entry. slice_get row i ≡ Some entry) (tail_call ∷ pair_leaf ∷ y_leaf ∷ []) pair_told
  in_pair row in_rows = (
    λ entry at. at_call pairs,
    (
      λ entry at.
          at_action pairs refl (ap (position (bytes_eq (codes "Pair"))) type_numbers) (ap (position (bytes_eq (codes "left"))) property_numbers)
          (come_to pairs are in_rows at act_current.written act_current.at act_current.owner act_current.before act_current.behind) leaf_below
          (only_type pairs are in_rows at act_current),
      (
        λ entry at.
            at_assignment pairs (Plain Text ∷ []) a_text (ap (position (bytes_eq (codes "y"))) property_numbers) (only_type pairs are in_rows at y_current),
        tt,
      ),
    ),
  )

  in_tail : (row : List Before) → slice_get rows 3 ≡ Some row →
      EachAs pairs (SeenAtLeaf pairs) (λ i entry. slice_get row i ≡ Some entry) (t_leaf ∷ []) tail_told
  in_tail row in_rows = (
    λ entry at. at_assignment pairs (Plain Text ∷ []) a_text (ap (position (bytes_eq (codes "t"))) property_numbers) (only_type pairs are in_rows at t_current),
    tt,
  )

  rules_seen : SeenAs pairs (SeenInRules pairs rows) (all_seen all_told)
  rules_seen =
      in_rules pairs are all_told (
        λ row in_rows. in_rule pairs are 0 entry_told refl in_rows of_entry (in_entry row in_rows),
        (
          λ row in_rows. in_rule pairs are 1 base_told refl in_rows of_base (in_base row in_rows),
          (
            λ row in_rows. in_rule pairs are 2 pair_told refl in_rows of_pair (in_pair row in_rows),
            (λ row in_rows. in_rule pairs are 3 tail_told refl in_rows of_tail (in_tail row in_rows), tt),
          ),
        ),
      )

-- ---- the types that are inferred

undeclared : (name : List ℕ) → bytes_eq (codes "Base") name ≡ false → bytes_eq (codes "Any") name ≡ false → ¬ IsDeclared pairs name
undeclared name no_base no_any (by_interface i interface is) =
    not_meant declared_interface declared_union name pairs.interfaces pairs.unions i interface (differ _ _ no_base, tt) is
undeclared name no_base no_any (by_union u union is) =
    not_meant declared_union declared_interface name pairs.unions pairs.interfaces u union (differ _ _ no_any, tt) is

free_root : IsFree pairs (codes "Root")
free_root = ((0, no_place, written.own base_entry (0, omega arith, refl) refl refl), undeclared (codes "Root") refl refl)

free_leaf : IsFree pairs (codes "Leaf")
free_leaf = ((0, no_place, written.own pair_rule (2, omega arith, refl) refl refl), undeclared (codes "Leaf") refl refl)

free_pair : IsFree pairs (codes "Pair")
free_pair = (
  (0, no_place, written.acted pair_rule pair_action (2, omega arith, refl) (subst (λ ls. Contains ls pair_leaf) (sym of_pair) (1, omega arith, refl)) refl),
  undeclared (codes "Pair") refl refl,
)

root_type : slice_get (type_names pairs) 2 ≡ Some (codes "Root")
root_type = ap (λ names. slice_get names 2) type_numbers

module _ {rows : List (List Before)} (are : AreWaysOf pairs rows) where
  pub root_has : ArePropertiesOf pairs rows 2 (property 1 false (nodes_of 0 ∷ []) ∷ [])
  root_has =
      inferred_by pairs 2 (codes "Root") root_type free_root (rules_seen are)
      (have.more _ refl refl refl (seen.new (not_in_none (nodes_of 0)) seen.none) (have.none refl))

  pub leaf_has : ArePropertiesOf pairs rows 3 (property 4 true (Plain Text ∷ []) ∷ [])
  leaf_has =
      inferred_by pairs 3 (codes "Leaf") leaf_type.there free_leaf (rules_seen are)
      (have.more _ refl refl refl (seen.new (not_in_none (Plain Text)) seen.none) (have.none refl))

  pub pair_has : ArePropertiesOf pairs rows 4 (property 2 false (nodes_of 3 ∷ []) ∷ property 3 false (Plain Text ∷ []) ∷ [])
  pair_has =
      inferred_by pairs 4 (codes "Pair") pair_type.there free_pair (rules_seen are)
      (have.more _ refl refl refl (seen.new (not_in_none (nodes_of 3)) seen.none)
      (have.more _ refl refl refl (seen.new (not_in_none (Plain Text)) seen.none) (have.none refl)))

-- ---- the interface and the union

abbrev name_attribute : Attribute
name_attribute = written_attribute (codes "name") false (member.Plain Text)

-- the attribute is found by the number of its name, where it was not had
found : (had : List ℕ) → find (is_new_attribute pairs had) (name_attribute ∷ []) ≡ cond (is_new had 0) (Some name_attribute) None
found had = ap (λ names. cond (option_map_or (is_new had) (position (bytes_eq (codes "name")) names) false) (Some name_attribute) None) property_numbers

base_declares : AreDeclaredProperties pairs (codes "Base") (property 0 false (Plain Text ∷ []) ∷ [])
base_declares = record {
  lineage = base ∷ [];
  all = kind.interface 0 base is_base (not_in_none 0) kind.none;
  declared = have.more name_attribute (Plain Text ∷ []) (found []) (ap (position (bytes_eq (codes "name"))) property_numbers) refl (give.value (give.no_text (λ none. none)) give.plain give.none)
      (seen.new (not_in_none (Plain Text)) seen.none) (have.none (found (0 ∷ [])));
}

pub base_has : (rows : List (List Before)) → ArePropertiesOf pairs rows 0 (property 0 false (Plain Text ∷ []) ∷ [])
base_has rows = have.declared (codes "Base") 0 base (ap (λ names. slice_get names 0) type_numbers) is_base base_declares

any_no_interface : (i : ℕ) (own : Interface) → ¬ IsInterface pairs (codes "Any") i own
any_no_interface i own = not_meant declared_interface declared_union (codes "Any") pairs.interfaces pairs.unions i own (differ _ _ refl, tt)

pub any_has_none : (rows : List (List Before)) → ArePropertiesOf pairs rows 1 []
any_has_none rows =
    have.neither (codes "Any") (ap (λ names. slice_get names 1) type_numbers) (λ free. free.1 (by_union 0 base_or_leaf is_any)) any_no_interface
