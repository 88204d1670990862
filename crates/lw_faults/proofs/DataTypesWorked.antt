-- Rules whose type does not suit what they make, and those beside them.
use Rattle.std.proofs.Common.{◌≡◌, ℕ, List, [], ◌∷◌, codes, All, Contains, refl, sym, ap, ◌∙◌, subst, arith}
use Rattle.std.proofs.lemmas.List.Elements.{All-nil, All-cons, All-head}
use Rattle.lw_base.specs.declared.token.Span.{Span}
use Rattle.lw_grammar.specs.declared.grammar.Grammar.{Grammar}
use Rattle.lw_grammar.specs.declared.rule.Rule.{Rule}
use Rattle.lw_grammar.specs.declared.rule.RuleResult.{RuleResult}
use Rattle.lw_grammar.specs.declared.rule.RuleResult.TheVariants.{Returns, Gives, Infers}
use Rattle.lw_grammar.specs.declared.rule.Element.{Element}
use Rattle.lw_grammar.specs.declared.terminal.Primitive.TheVariants.{Text}
use Rattle.lw_grammar.specs.declared.declared_types.UnionDef.{UnionDef}
use Rattle.lw_grammar.specs.declared.declared_types.Member.{Member}
use Rattle.lw_grammar.specs.declared.declared_types.Member.TheVariants.{Named, Literal}
use Rattle.lw_grammar.specs.Named.{IsRule, IsUnion, declared_rule, declared_terminal, declared_union, declared_interface}
use Rattle.lw_grammar.specs.Nodes.{IsDataType}
use Rattle.lw_grammar.proofs.FirstLemmas.{first_item}
use Rattle.lw_faults.specs.DataTypes.{MixedDataTypeRule, IsPlainMember, IsPlainUnion}
use Rattle.lw_faults.specs.DataTypes as data_type
use Rattle.lw_faults.specs.Worked.{StandsAlone, StandsNowhere, place, no_place, entry_rule, x_id, union_of, id_element, resulting}
use Rattle.lw_grammar.proofs.Every.{every_of, differ, first_here, meant, not_meant}
use Rattle.lw_faults.proofs.NodeLemmas.{puts_makes, id_makes_none}

module _ (result : RuleResult) (unions : List UnionDef) (body : Element) where
  abbrev G : Grammar
  G = resulting result unions body

  abbrev pub A : Rule
  A = record (entry_rule (codes "A") (place 16 17) body) { result = result }

  is_a : (rule : Rule) → Contains G.rules rule → A ≡ rule
  is_a rule has = every_of (λ x. A ≡ x) (A ∷ []) rule (refl, tt) has

  no_id : (r : ℕ) (rule : Rule) → ¬ IsRule G (codes "ID") r rule
  no_id r rule = not_meant declared_rule declared_terminal (codes "ID") G.rules G.terminals r rule (differ _ _ refl, tt)

  only_a : (f : ℕ) (t : Span) (n : List ℕ) → MixedDataTypeRule G f t n → (f ≡ 0) × (t ≡ place 16 17) × (n ≡ codes "A")
  only_a f t n is = by is
    where
      its_place : (rule : Rule) → A ≡ rule → (rule.file ≡ 0) × (rule.span ≡ place 16 17) × (rule.name ≡ codes "A")
      its_place rule same = (sym (ap (λ (x : Rule). x.file) same), sym (ap (λ (x : Rule). x.span) same), sym (ap (λ (x : Rule). x.name) same))

      by : {f : ℕ} {t : Span} {n : List ℕ} → MixedDataTypeRule G f t n → (f ≡ 0) × (t ≡ place 16 17) × (n ≡ codes "A")
      by (data_type.gives rule p has _ _) = its_place rule (is_a rule has)
      by (data_type.infers rule name s has _ _) = its_place rule (is_a rule has)
      by (data_type.returns rule name s has _ _ _) = its_place rule (is_a rule has)

  result_is : (rule : Rule) → Contains G.rules rule → result ≡ rule.result
  result_is rule has = ap (λ (x : Rule). x.result) (is_a rule has)

pub x_makes : (result : RuleResult) (unions : List UnionDef) (rule : Rule) → Contains (G result unions x_id).rules rule → ¬ IsDataType (G result unions x_id) rule
x_makes result unions rule has is =
    is.1 (puts_makes (G result unions x_id) rule (codes "x") (codes "ID") (sym (ap (λ (x : Rule). x.body) (is_a result unions x_id rule has))))

pub id_is_text : (result : RuleResult) (unions : List UnionDef) (rule : Rule) → Contains (G result unions id_element).rules rule → IsDataType (G result unions id_element) rule
id_is_text result unions rule has = (
  sym (ap (λ (x : Rule). x.is_fragment) (is_a result unions id_element rule has)),
  id_makes_none (G result unions id_element) rule (sym (ap (λ (x : Rule). x.body) (is_a result unions id_element rule has))) (no_id result unions id_element),
)

pub here : (result : RuleResult) (unions : List UnionDef) (body : Element) → Contains (G result unions body).rules (A result unions body)
here result unions body = (0, omega arith, refl)

-- ---- a primitive type

abbrev given : RuleResult
given = Gives Text

pub nodes_as_text : StandsAlone (MixedDataTypeRule (resulting given [] x_id)) 0 (place 16 17) (codes "A")
nodes_as_text = (data_type.gives (A given [] x_id) Text (here given [] x_id) refl (x_makes given [] (A given [] x_id) (here given [] x_id)), only_a given [] x_id)

pub text : StandsNowhere (MixedDataTypeRule (resulting given [] id_element))
text f t n (data_type.gives rule p has _ none) = none (id_is_text given [] rule has)
text f t n (data_type.infers rule name s has _ is) = let both : given ≡ Infers name s = result_is given [] id_element rule has ∙ is in cc
text f t n (data_type.returns rule name s has _ is _) = let both : given ≡ Returns name s = result_is given [] id_element rule has ∙ is in cc

-- ---- an inferred type

abbrev inferring : RuleResult
inferring = Infers (codes "B") no_place

pub inferred : StandsAlone (MixedDataTypeRule (resulting inferring [] id_element)) 0 (place 16 17) (codes "A")
inferred = (
  data_type.infers (A inferring [] id_element) (codes "B") no_place (here inferring [] id_element)
      (id_is_text inferring [] (A inferring [] id_element) (here inferring [] id_element)) refl,
  only_a inferring [] id_element,
)

pub inferred_node : StandsNowhere (MixedDataTypeRule (resulting inferring [] x_id))
inferred_node f t n (data_type.gives rule p has is _) = let both : inferring ≡ Gives p = result_is inferring [] x_id rule has ∙ is in cc
inferred_node f t n (data_type.infers rule name s has text _) = x_makes inferring [] rule has text
inferred_node f t n (data_type.returns rule name s has text _ _) = x_makes inferring [] rule has text

-- ---- a union

abbrev returned : RuleResult
returned = Returns (codes "U") no_place

module _ (member : Member) where
  abbrev us : List UnionDef
  us = union_of member ∷ []

  u_named : IsUnion (G returned us id_element) (codes "U") 0 (union_of member)
  u_named = meant declared_union declared_interface (codes "U") us [] 0 (union_of member) (first_here refl) tt

  u_plain : IsPlainUnion (G returned us id_element) (codes "U") → IsPlainMember member
  u_plain (u, union, is, all) =
      All-head IsPlainMember member [] (subst (λ (x : UnionDef). All IsPlainMember x.members) (first_item is.first u_named.first) all)

pub nodes_by_union : StandsAlone (MixedDataTypeRule (resulting returned (us (Named (codes "A") no_place)) id_element)) 0 (place 16 17) (codes "A")
nodes_by_union = (
  data_type.returns (A returned (us (Named (codes "A") no_place)) id_element) (codes "U") no_place (here returned (us (Named (codes "A") no_place)) id_element)
      (id_is_text returned (us (Named (codes "A") no_place)) (A returned (us (Named (codes "A") no_place)) id_element) (here returned (us (Named (codes "A") no_place)) id_element))
      refl (λ plain. elim (u_plain (Named (codes "A") no_place) plain) [ ]),
  only_a returned (us (Named (codes "A") no_place)) id_element,
)

pub texts_by_union : StandsNowhere (MixedDataTypeRule (resulting returned (us (Literal (codes "a"))) id_element))
texts_by_union f t n (data_type.gives rule p has is _) = let both : returned ≡ Gives p = result_is returned (us (Literal (codes "a"))) id_element rule has ∙ is in cc
texts_by_union f t n (data_type.infers rule name s has _ is) =
    let both : returned ≡ Infers name s = result_is returned (us (Literal (codes "a"))) id_element rule has ∙ is in cc
texts_by_union f t n (data_type.returns rule name s has _ is none) =
    none (subst (IsPlainUnion (G returned (us (Literal (codes "a"))) id_element)) (named both)
    (0, union_of (Literal (codes "a")), u_named (Literal (codes "a")), All-cons IsPlainMember (Literal (codes "a")) [] data_type.literal (All-nil IsPlainMember)))
  where
    both : returned ≡ Returns name s
    both = result_is returned (us (Literal (codes "a"))) id_element rule has ∙ is

    named : returned ≡ Returns name s → codes "U" ≡ name
    named same = cc
