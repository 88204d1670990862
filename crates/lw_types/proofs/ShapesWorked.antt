-- The properties of the types of a grammar with an interface that extends another, and a union.
use Rattle.std.proofs.Common.{ℕ, List, [], ◌∷◌, true, false, codes, Contains, inl, inr, refl, arith}
use Rattle.lw_grammar.specs.declared.terminal.Primitive.TheVariants.{Text}
use Rattle.lw_grammar.specs.declared.declared_types.ValueKind.TheVariants.{Plain}
use Rattle.lw_grammar.specs.declared.declared_types.Interface.{Interface}
use Rattle.lw_grammar.specs.declared.declared_types.Member.TheVariants.{Named}
use Rattle.lw_grammar.specs.declared.declared_types.UnionDef.{UnionDef}
use Rattle.lw_grammar.specs.Named.{IsInterface, IsUnion, declared_interface, declared_union}
use Rattle.lw_grammar.specs.Subtypes.{by_union}
use Rattle.lw_grammar.proofs.Every.{differ, first_here, first_later, meant, not_meant}
use Rattle.lw_faults.specs.Attributes.{IsTypeOfTexts}
use Rattle.lw_faults.specs.Attributes as above
use Rattle.lw_faults.specs.Worked.{no_place}
use Rattle.lw_flow.specs.declared.before.Before.{Before}
use Rattle.lw_types.specs.FirstSeen as seen
use Rattle.lw_types.specs.Values.{MembersGive, nodes_of, refs_to}
use Rattle.lw_types.specs.Values as give
use Rattle.lw_types.specs.Having.{AreDeclaredProperties, ArePropertiesOf}
use Rattle.lw_types.specs.Having as have
use Rattle.lw_types.specs.Worked.{base, shape, any, shapes, property}
use Rattle.lw_types.proofs.Firsts.{not_in_none, at_front, front_cases}

is_base : IsInterface shapes (codes "Base") 0 base
is_base = meant declared_interface declared_union (codes "Base") shapes.interfaces shapes.unions 0 base (first_here refl) (differ (codes "Any") (codes "Base") refl, tt)

is_shape : IsInterface shapes (codes "Shape") 1 shape
is_shape =
    meant declared_interface declared_union (codes "Shape") shapes.interfaces shapes.unions 1 shape (first_later (differ (codes "Base") (codes "Shape") refl) (first_here refl))
    (differ (codes "Any") (codes "Shape") refl, tt)

is_any : IsUnion shapes (codes "Any") 0 any
is_any =
    meant declared_union declared_interface (codes "Any") shapes.unions shapes.interfaces 0 any (first_here refl)
    (differ (codes "Base") (codes "Any") refl, (differ (codes "Shape") (codes "Any") refl, tt))

base_no_union : (u : ℕ) (union : UnionDef) → ¬ IsUnion shapes (codes "Base") u union
base_no_union u union = not_meant declared_union declared_interface (codes "Base") shapes.unions shapes.interfaces u union (differ (codes "Any") (codes "Base") refl, tt)

any_no_interface : (i : ℕ) (own : Interface) → ¬ IsInterface shapes (codes "Any") i own
any_no_interface i own =
    not_meant declared_interface declared_union (codes "Any") shapes.interfaces shapes.unions i own (differ (codes "Base") (codes "Any") refl, (differ (codes "Shape") (codes "Any") refl, tt))

no_texts : (name : List ℕ) → ¬ IsTypeOfTexts shapes name
no_texts name text = not_in_none text.rule text.among

pub base_has : AreDeclaredProperties shapes (codes "Base") (property 0 false (Plain Text ∷ []) ∷ [])
base_has = record {
  lineage = base ∷ [];
  all = above.interface 0 base is_base (not_in_none 0) above.none;
  declared =
      have.more _ (Plain Text ∷ []) refl refl refl (give.value (give.no_text (λ none. none)) give.plain give.none) (seen.new (not_in_none (Plain Text)) seen.none) (have.none refl);
}

-- `Any` stands for its members, and for itself only once
parts_give : MembersGive shapes [] (Named (codes "Any") no_place ∷ []) (nodes_of 0 ∷ [])
parts_give =
    give.union 0 any is_any (not_in_none 0) (give.no_text (no_texts (codes "Any")))
    (give.value (give.no_text (no_texts (codes "Base"))) (give.nodes base_no_union (λ text. no_texts (codes "Base") text.texts))
    (give.again 0 any is_any (at_front 0 []) (give.no_text (no_texts (codes "Any"))) give.none))

-- the first interface is not the second
not_shape : ¬ Contains {X = ℕ} (1 ∷ []) 0
not_shape has = elim (front_cases 1 [] 0 has) [ inl is ↦ absurd (omega (arith, is)) | inr within ↦ not_in_none 0 within ]

pub shape_has : AreDeclaredProperties shapes (codes "Shape") (property 1 true (nodes_of 0 ∷ []) ∷ property 0 false (refs_to 0 ∷ []) ∷ [])
shape_has = record {
  lineage = shape ∷ base ∷ [];
  all =
      above.interface 1 shape is_shape (not_in_none 1)
      (above.more (above.interface 0 base is_base not_shape above.none) above.none);
  declared =
      have.more _ (nodes_of 0 ∷ []) refl refl refl parts_give (seen.new (not_in_none (nodes_of 0)) seen.none)
      (have.more _ (refs_to 0 ∷ []) refl refl refl (give.value (give.no_text (λ none. none)) give.references give.none) (seen.new (not_in_none (refs_to 0)) seen.none) (have.none refl));
}

pub any_has_none : (rows : List (List Before)) → ArePropertiesOf shapes rows 2 []
any_has_none rows = have.neither (codes "Any") refl (λ free. free.1 (by_union 0 any is_any)) any_no_interface
