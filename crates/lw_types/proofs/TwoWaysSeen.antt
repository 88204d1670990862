-- The grammar of two ways that begin and end alike: what is seen at its leaves, and the properties of its type.
use Rattle.std.proofs.Common.{◌≡◌, ℕ, List, [], ◌∷◌, ◌++◌, Some, false, codes, position, bytes_eq, slice_get, refl, sym, ap, subst, arith}
use Rattle.std.specs.List.{flat_map}
use Rattle.std.proofs.lemmas.Option.{none-some}
use Rattle.lw_grammar.specs.declared.rule.Op.TheVariants.{One}
use Rattle.lw_grammar.specs.declared.rule.Value0.TheVariants as value
use Rattle.lw_grammar.specs.declared.terminal.Primitive.TheVariants.{Text}
use Rattle.lw_grammar.specs.declared.declared_types.ValueKind.TheVariants.{Plain}
use Rattle.lw_grammar.specs.Kinds.{first_uses}
use Rattle.lw_grammar.specs.Leaves.{Leaf, leaves}
use Rattle.lw_grammar.specs.Leaves as leaf
use Rattle.lw_grammar.specs.Subtypes.{IsDeclared, by_interface, by_union}
use Rattle.lw_grammar.proofs.LeafLemmas.{leaf_equations, values-Keyword}
use Rattle.lw_grammar.specs.Worked.{nowhere, way, way_parts, ways, two_ways_rule, two_ways}
use Rattle.lw_grammar.proofs.Every.{Every}
use Rattle.lw_faults.specs.Attributes as kind
use Rattle.lw_faults.specs.Steps as steps
use Rattle.lw_grammar.specs.Written as written
use Rattle.lw_faults.proofs.WorkedSteps.{word_goes, to_assign}
use Rattle.lw_numbers.specs.Numbering.{type_names, property_names, leaf_types, leaf_properties}
use Rattle.lw_flow.specs.declared.before.Before.{Before}
use Rattle.lw_flow.specs.Recorded.{AreWaysOf}
use Rattle.lw_properties.specs.Mixing.{IsFree}
use Rattle.lw_types.specs.FirstSeen as seen
use Rattle.lw_types.specs.Values.{AssignmentGives, PartsGive}
use Rattle.lw_types.specs.Values as give
use Rattle.lw_types.specs.Sightings.{Sighting, SeenAtLeaf, SeenInRules}
use Rattle.lw_types.specs.Having.{ArePropertiesOf}
use Rattle.lw_types.specs.Having as have
use Rattle.lw_types.specs.Worked.{property}
use Rattle.lw_types.proofs.Firsts.{not_in_none}
use Rattle.lw_types.proofs.Comings.{IsPlain, to_row, to_chosen}
use Rattle.lw_types.proofs.Currents.{StandsOnce, once_here, once_later, leaves_differ, HasCurrent, own_alone, only_type}
use Rattle.lw_types.proofs.Alike.{one_seen, all_seen, SeenAs, EachAs, at_keyword, at_assignment, in_rule, in_rules, inferred_by}

abbrev keyword : List ℕ → Leaf
keyword text = leaf.Keyword text nowhere

abbrev assigned : List ℕ → Leaf
assigned text = leaf.Assign text One (value.Keyword text nowhere) nowhere

abbrev all_leaves : List Leaf
all_leaves = keyword (codes "a") ∷ assigned (codes "b") ∷ keyword (codes "c") ∷ keyword (codes "a") ∷ assigned (codes "d") ∷ keyword (codes "c") ∷ []

of_rule : leaves two_ways_rule.body ≡ all_leaves
of_rule = simp leaf_equations

pub type_numbers : type_names two_ways ≡ codes "A" ∷ []
type_numbers = ap (λ ls. first_uses [] (codes "A" ∷ (flat_map leaf_types ls ++ []))) of_rule

pub property_numbers : property_names two_ways ≡ codes "b" ∷ codes "d" ∷ []
property_numbers = ap (λ ls. first_uses [] (flat_map leaf_properties ls ++ [])) of_rule

plain : Every (λ rule. Every IsPlain (leaves rule.body)) two_ways.rules
plain = (subst (Every IsPlain) (sym of_rule) (tt, (tt, (tt, (tt, (tt, (tt, tt)))))), tt)

the_rule : StandsOnce two_ways.rules 0 two_ways_rule
the_rule = once_here tt

the_type : StandsOnce (type_names two_ways) 0 (codes "A")
the_type = subst (λ names. StandsOnce names 0 (codes "A")) (sym type_numbers) (once_here tt)

b_once : StandsOnce (leaves two_ways_rule.body) 1 (assigned (codes "b"))
b_once =
    subst (λ ls. StandsOnce ls 1 (assigned (codes "b"))) (sym of_rule)
    (once_later (leaves_differ _ _ refl) (once_here (leaves_differ _ _ refl, (leaves_differ _ _ refl, (leaves_differ _ _ refl, (leaves_differ _ _ refl, tt))))))

d_once : StandsOnce (leaves two_ways_rule.body) 4 (assigned (codes "d"))
d_once =
    subst (λ ls. StandsOnce ls 4 (assigned (codes "d"))) (sym of_rule)
    (once_later (leaves_differ _ _ refl) (once_later (leaves_differ _ _ refl) (once_later (leaves_differ _ _ refl) (once_later (leaves_differ _ _ refl)
    (once_here (leaves_differ _ _ refl, tt))))))

b_current : HasCurrent two_ways 0 1 two_ways_rule (assigned (codes "b")) 0
b_current =
    own_alone two_ways plain (refl, refl) (λ name typed. typed.1) the_rule b_once the_type (λ is. is.2)
    (to_chosen two_ways two_ways_rule ways (way (codes "b")) (0, omega arith, refl)
    (to_row two_ways two_ways_rule (way_parts (codes "b")) (steps.later (word_goes two_ways) (steps.here (to_assign two_ways)))))

d_current : HasCurrent two_ways 0 4 two_ways_rule (assigned (codes "d")) 0
d_current =
    own_alone two_ways plain (refl, refl) (λ name typed. typed.1) the_rule d_once the_type (λ is. is.2)
    (to_chosen two_ways two_ways_rule ways (way (codes "d")) (1, omega arith, refl)
    (to_row two_ways two_ways_rule (way_parts (codes "d")) (steps.later (word_goes two_ways) (steps.here (to_assign two_ways)))))

a_word : (text : List ℕ) → AssignmentGives two_ways One (value.Keyword text nowhere) (Plain Text ∷ [])
a_word text =
    subst (λ ls. PartsGive two_ways ls (Plain Text ∷ [])) (sym (values-Keyword text nowhere)) (give.more (give.value (kind.Plain Text) kind.literal) give.none)

abbrev told : List (List Sighting)
told = [] ∷ one_seen 0 0 false (Plain Text) ∷ [] ∷ [] ∷ one_seen 0 1 false (Plain Text) ∷ [] ∷ []

module _ {rows : List (List Before)} (are : AreWaysOf two_ways rows) where
  each : (row : List Before) → slice_get rows 0 ≡ Some row → EachAs two_ways (SeenAtLeaf two_ways) (λ i entry. slice_get row i ≡ Some entry) all_leaves told
  each row in_rows = (
    λ entry at. at_keyword two_ways,
    (
      λ entry at.
          at_assignment two_ways (Plain Text ∷ []) (a_word (codes "b")) (ap (position (bytes_eq (codes "b"))) property_numbers)
          (only_type two_ways are in_rows at b_current),
      (
        λ entry at. at_keyword two_ways,
        (
          λ entry at. at_keyword two_ways,
          (
            λ entry at.
                at_assignment two_ways (Plain Text ∷ []) (a_word (codes "d")) (ap (position (bytes_eq (codes "d"))) property_numbers)
                (only_type two_ways are in_rows at d_current),
            (λ entry at. at_keyword two_ways, tt),
          ),
        ),
      ),
    ),
  )

  rules_seen : SeenAs two_ways (SeenInRules two_ways rows) (all_seen told)
  rules_seen =
      in_rules two_ways are (all_seen told ∷ [])
      (λ row in_rows. in_rule two_ways are 0 told refl in_rows of_rule (each row in_rows), tt)

  undeclared : ¬ IsDeclared two_ways (codes "A")
  undeclared (by_interface i interface is) = none-some interface is.first.there
  undeclared (by_union u union is) = none-some union is.first.there

  free : IsFree two_ways (codes "A")
  free = ((0, nowhere, written.own two_ways_rule (0, omega arith, refl) refl refl), undeclared)

  pub both_properties : ArePropertiesOf two_ways rows 0 (property 0 false (Plain Text ∷ []) ∷ property 1 false (Plain Text ∷ []) ∷ [])
  both_properties =
      inferred_by two_ways 0 (codes "A") the_type.there free rules_seen
      (have.more _ refl refl refl (seen.new (not_in_none (Plain Text)) seen.none)
      (have.more _ refl refl refl (seen.new (not_in_none (Plain Text)) seen.none) (have.none refl)))
