-- The grammar of models with states: what is seen at its leaves, and the properties of its types.
use Rattle.std.proofs.Common.{◌≡◌, ◌↔◌, ℕ, List, [], ◌∷◌, ◌++◌, Some, true, false, codes, position, bytes_eq, slice_get, Contains, refl, sym, ap, ap₂, subst, arith}
use Rattle.std.specs.List.{flat_map}
use Rattle.lw_grammar.specs.declared.rule.Rule.{Rule}
use Rattle.lw_grammar.specs.declared.rule.Element.TheVariants.{Assign, Group, outs-Many}
use Rattle.lw_grammar.specs.declared.rule.Op.TheVariants.{One, Add}
use Rattle.lw_grammar.specs.declared.rule.Value0.TheVariants as value
use Rattle.lw_grammar.specs.declared.terminal.Primitive.TheVariants.{Text}
use Rattle.lw_grammar.specs.declared.declared_types.ValueKind.TheVariants.{Plain}
use Rattle.lw_grammar.specs.Kinds.{first_uses}
use Rattle.lw_grammar.specs.Leaves.{Leaf, leaves}
use Rattle.lw_grammar.specs.Leaves as leaf
use Rattle.lw_grammar.specs.Nodes.{MakesNodes, assigns}
use Rattle.lw_grammar.specs.Subtypes.{IsSubtype}
use Rattle.lw_grammar.specs.Subtypes as below
use Rattle.lw_grammar.proofs.LeafLemmas.{leaf_equations, values-Call, values-Cross}
use Rattle.lw_grammar.specs.Worked.{nowhere, id_call, id_terminal, model_rule, model_parts, next_parts, state_parts, state_rule, by_id, states_by_id}
use Rattle.lw_grammar.proofs.Every.{Every, differ}
use Rattle.lw_grammar.proofs.StatesWorked.{undeclared, state_named, id_named, below_same}
use Rattle.lw_faults.specs.Attributes as kind
use Rattle.lw_faults.specs.Steps.{ComesLayer}
use Rattle.lw_faults.specs.Steps as steps
use Rattle.lw_grammar.specs.Written as written
use Rattle.lw_faults.proofs.StepLemmas.{can_come}
use Rattle.lw_faults.proofs.WorkedSteps.{word_goes, assign_goes, to_assign}
use Rattle.lw_numbers.specs.Numbering.{type_names, property_names, leaf_types, leaf_properties}
use Rattle.lw_flow.specs.declared.before.Before.{Before}
use Rattle.lw_flow.specs.Recorded.{AreWaysOf}
use Rattle.lw_properties.specs.Mixing.{IsFree}
use Rattle.lw_types.specs.FirstSeen as seen
use Rattle.lw_types.specs.Values.{PartGives, PartsGive, nodes_of, refs_to, numbered}
use Rattle.lw_types.specs.Values as give
use Rattle.lw_types.specs.Sightings.{Sighting, SeenAtLeaf, SeenInRules}
use Rattle.lw_types.specs.Having.{ArePropertiesOf}
use Rattle.lw_types.specs.Having as have
use Rattle.lw_types.specs.Worked.{property}
use Rattle.lw_types.proofs.Firsts.{not_in_none}
use Rattle.lw_types.proofs.Comings.{IsPlain, to_row}
use Rattle.lw_types.proofs.Currents.{StandsOnce, once_here, once_later, leaves_differ, rules_differ, HasCurrent, own_alone, only_type}
use Rattle.lw_types.proofs.Alike.{one_seen, all_seen, SeenAs, EachAs, at_keyword, at_assignment, in_rule, in_rules, inferred_by}

abbrev S : Rule
S = state_rule by_id

abbrev keyword : List ℕ → Leaf
keyword text = leaf.Keyword text nowhere

abbrev name_leaf : Leaf
name_leaf = leaf.Assign (codes "name") One id_call nowhere

abbrev states_leaf : Leaf
states_leaf = leaf.Assign (codes "states") Add (value.Call (codes "State") nowhere) nowhere

abbrev next_leaf : Leaf
next_leaf = leaf.Assign (codes "next") Add by_id nowhere

abbrev model_leaves : List Leaf
model_leaves = keyword (codes "model") ∷ name_leaf ∷ states_leaf ∷ []

abbrev state_leaves : List Leaf
state_leaves = keyword (codes "state") ∷ name_leaf ∷ keyword (codes "to") ∷ next_leaf ∷ keyword (codes "end") ∷ []

of_model : leaves model_rule.body ≡ model_leaves
of_model = simp leaf_equations

of_state : leaves S.body ≡ state_leaves
of_state = simp leaf_equations

-- ---- numbers

pub type_numbers : type_names states_by_id ≡ codes "Model" ∷ codes "State" ∷ []
type_numbers =
    ap₂ (λ ls ms. first_uses [] ((codes "Model" ∷ flat_map leaf_types ls) ++ ((codes "State" ∷ flat_map leaf_types ms) ++ []))) of_model of_state

pub property_numbers : property_names states_by_id ≡ codes "name" ∷ codes "states" ∷ codes "next" ∷ []
property_numbers = ap₂ (λ ls ms. first_uses [] (flat_map leaf_properties ls ++ (flat_map leaf_properties ms ++ []))) of_model of_state

-- ---- one type is current at each leaf

plain : Every (λ rule. Every IsPlain (leaves rule.body)) states_by_id.rules
plain = (
  subst (Every IsPlain) (sym of_model) (tt, (tt, (tt, tt))),
  (subst (Every IsPlain) (sym of_state) (tt, (tt, (tt, (tt, (tt, tt))))), tt),
)

model_once : StandsOnce states_by_id.rules 0 model_rule
model_once = once_here (rules_differ _ _ refl, tt)

state_once : StandsOnce states_by_id.rules 1 S
state_once = once_later (rules_differ _ _ refl) (once_here tt)

model_type : StandsOnce (type_names states_by_id) 0 (codes "Model")
model_type = subst (λ names. StandsOnce names 0 (codes "Model")) (sym type_numbers) (once_here (differ _ _ refl, tt))

state_type : StandsOnce (type_names states_by_id) 1 (codes "State")
state_type = subst (λ names. StandsOnce names 1 (codes "State")) (sym type_numbers) (once_later (differ _ _ refl) (once_here tt))

model_name : HasCurrent states_by_id 0 1 model_rule name_leaf 0
model_name =
    own_alone states_by_id plain (refl, refl) (λ name typed. typed.1) model_once
    (subst (λ ls. StandsOnce ls 1 name_leaf) (sym of_model) (once_later (leaves_differ _ _ refl) (once_here (leaves_differ _ _ refl, tt)))) model_type (λ is. is.2)
    (to_row states_by_id model_rule model_parts (steps.later (word_goes states_by_id) (steps.here (to_assign states_by_id))))

model_states : HasCurrent states_by_id 0 2 model_rule states_leaf 0
model_states =
    own_alone states_by_id plain (refl, refl) (λ name typed. typed.1) model_once
    (subst (λ ls. StandsOnce ls 2 states_leaf) (sym of_model) (once_later (leaves_differ _ _ refl) (once_later (leaves_differ _ _ refl) (once_here tt)))) model_type
    (λ is. is.2)
    (to_row states_by_id model_rule model_parts
    (steps.later (word_goes states_by_id) (steps.later (assign_goes states_by_id)
    (steps.here (can_come states_by_id (outs-Many (Assign (codes "states") Add (value.Call (codes "State") nowhere) nowhere) nowhere)
    (ComesLayer.repeated steps.stop (to_assign states_by_id)))))))

state_name : HasCurrent states_by_id 1 1 S name_leaf 1
state_name =
    own_alone states_by_id plain (refl, refl) (λ name typed. typed.1) state_once
    (subst (λ ls. StandsOnce ls 1 name_leaf) (sym of_state)
    (once_later (leaves_differ _ _ refl) (once_here (leaves_differ _ _ refl, (leaves_differ _ _ refl, (leaves_differ _ _ refl, tt)))))) state_type (λ is. is.2)
    (to_row states_by_id S (state_parts by_id) (steps.later (word_goes states_by_id) (steps.here (to_assign states_by_id))))

state_next : HasCurrent states_by_id 1 3 S next_leaf 1
state_next =
    own_alone states_by_id plain (refl, refl) (λ name typed. typed.1) state_once
    (subst (λ ls. StandsOnce ls 3 next_leaf) (sym of_state)
    (once_later (leaves_differ _ _ refl) (once_later (leaves_differ _ _ refl) (once_later (leaves_differ _ _ refl) (once_here (leaves_differ _ _ refl, tt))))))
    state_type (λ is. is.2)
    (to_row states_by_id S (state_parts by_id)
    (steps.later (word_goes states_by_id) (steps.later (assign_goes states_by_id)
    (steps.here (can_come states_by_id (outs-Many (Group (next_parts by_id) nowhere) nowhere)
    (ComesLayer.repeated steps.stop
    (to_row states_by_id S (next_parts by_id) (steps.later (word_goes states_by_id) (steps.here (to_assign states_by_id))))))))))

-- ---- the values

a_text : PartsGive states_by_id (leaf.value_leaves id_call) (Plain Text ∷ [])
a_text =
    subst (λ ls. PartsGive states_by_id ls (Plain Text ∷ [])) (sym (values-Call (codes "ID") nowhere))
    (give.more (give.value (kind.Plain Text) (kind.terminal 1 id_terminal (id_named by_id))) give.none)

makes_nodes : MakesNodes states_by_id S
makes_nodes = assigns (codes "name") One id_call nowhere (subst (λ ls. Contains ls name_leaf) (sym of_state) (1, omega arith, refl))

a_state : PartsGive states_by_id (leaf.value_leaves (value.Call (codes "State") nowhere)) (nodes_of 1 ∷ [])
a_state =
    subst (λ ls. PartsGive states_by_id ls (nodes_of 1 ∷ [])) (sym (values-Call (codes "State") nowhere))
    (give.more
    (subst (PartGives states_by_id (leaf.Calls (codes "State") nowhere)) (ap (λ names. numbered nodes_of (position (bytes_eq (codes "State")) names)) type_numbers)
    (give.value (kind.NodesOf (codes "State")) (kind.node 1 S (state_named by_id) makes_nodes (refl, refl)))) give.none)

a_reference : PartsGive states_by_id (leaf.value_leaves by_id) (refs_to 1 ∷ [])
a_reference =
    subst (λ ls. PartsGive states_by_id ls (refs_to 1 ∷ [])) (sym (values-Cross (codes "State") (Some (codes "ID")) nowhere))
    (give.more
    (subst (PartGives states_by_id (leaf.Cross (codes "State") (Some (codes "ID")) nowhere))
    (ap (λ names. numbered refs_to (position (bytes_eq (codes "State")) names)) type_numbers) (give.value (kind.ReferencesTo (codes "State")) kind.reference))
    give.none)

-- ---- what is seen, and the properties

abbrev model_told : List (List Sighting)
model_told = [] ∷ one_seen 0 0 false (Plain Text) ∷ one_seen 0 1 true (nodes_of 1) ∷ []

abbrev state_told : List (List Sighting)
state_told = [] ∷ one_seen 1 0 false (Plain Text) ∷ [] ∷ one_seen 1 2 true (refs_to 1) ∷ [] ∷ []

abbrev all_told : List (List Sighting)
all_told = all_seen model_told ∷ all_seen state_told ∷ []

module _ {rows : List (List Before)} (are : AreWaysOf states_by_id rows) where
  in_model : (row : List Before) → slice_get rows 0 ≡ Some row →
      EachAs states_by_id (SeenAtLeaf states_by_id) (λ i entry. slice_get row i ≡ Some entry) model_leaves model_told
  in_model row in_rows = (
    λ entry at. at_keyword states_by_id,
    (
      λ entry at.
          at_assignment states_by_id (Plain Text ∷ []) a_text (ap (position (bytes_eq (codes "name"))) property_numbers) (only_type states_by_id are in_rows at model_name),
      (
        λ entry at.
            at_assignment states_by_id (nodes_of 1 ∷ []) a_state (ap (position (bytes_eq (codes "states"))) property_numbers)
            (only_type states_by_id are in_rows at model_states),
        tt,
      ),
    ),
  )

  in_state : (row : List Before) → slice_get rows 1 ≡ Some row →
      EachAs states_by_id (SeenAtLeaf states_by_id) (λ i entry. slice_get row i ≡ Some entry) state_leaves state_told
  in_state row in_rows = (
    λ entry at. at_keyword states_by_id,
    (
      λ entry at.
          at_assignment states_by_id (Plain Text ∷ []) a_text (ap (position (bytes_eq (codes "name"))) property_numbers) (only_type states_by_id are in_rows at state_name),
      (
        λ entry at. at_keyword states_by_id,
        (
          λ entry at.
              at_assignment states_by_id (refs_to 1 ∷ []) a_reference (ap (position (bytes_eq (codes "next"))) property_numbers)
              (only_type states_by_id are in_rows at state_next),
          (λ entry at. at_keyword states_by_id, tt),
        ),
      ),
    ),
  )

  rules_seen : SeenAs states_by_id (SeenInRules states_by_id rows) (all_seen all_told)
  rules_seen =
      in_rules states_by_id are all_told (
        λ row in_rows. in_rule states_by_id are 0 model_told refl in_rows of_model (in_model row in_rows),
        (λ row in_rows. in_rule states_by_id are 1 state_told refl in_rows of_state (in_state row in_rows), tt),
      )

  free_model : IsFree states_by_id (codes "Model")
  free_model = ((0, nowhere, written.own model_rule (0, omega arith, refl) refl refl), undeclared by_id (codes "Model"))

  free_state : IsFree states_by_id (codes "State")
  free_state = ((0, nowhere, written.own S (1, omega arith, refl) refl refl), undeclared by_id (codes "State"))

  pub properties_of_model : ArePropertiesOf states_by_id rows 0 (property 0 false (Plain Text ∷ []) ∷ property 1 true (nodes_of 1 ∷ []) ∷ [])
  properties_of_model =
      inferred_by states_by_id 0 (codes "Model") model_type.there free_model rules_seen
      (have.more _ refl refl refl (seen.new (not_in_none (Plain Text)) seen.none)
      (have.more _ refl refl refl (seen.new (not_in_none (nodes_of 1)) seen.none) (have.none refl)))

  pub properties_of_state : ArePropertiesOf states_by_id rows 1 (property 0 false (Plain Text ∷ []) ∷ property 2 true (refs_to 1 ∷ []) ∷ [])
  properties_of_state =
      inferred_by states_by_id 1 (codes "State") state_type.there free_state rules_seen
      (have.more _ refl refl refl (seen.new (not_in_none (Plain Text)) seen.none)
      (have.more _ refl refl refl (seen.new (not_in_none (refs_to 1)) seen.none) (have.none refl)))

-- ---- each type is below itself alone

pub only_itself : (one other : List ℕ) → IsSubtype states_by_id one other ↔ (one ≡ other)
only_itself one other = (below_same by_id one other, λ same. subst (IsSubtype states_by_id one) same below.same)
