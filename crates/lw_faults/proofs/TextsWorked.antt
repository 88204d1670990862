-- Members that name the type of a data type rule, and one that names the type of a rule that makes nodes.
use Rattle.std.proofs.Common.{List, ℕ, [], ◌∷◌, codes, refl, arith}
use Rattle.std.proofs.lemmas.Option.{none-some}
use Rattle.lw_grammar.specs.declared.rule.RuleResult.TheVariants.{Own}
use Rattle.lw_grammar.specs.declared.terminal.Primitive.TheVariants.{Text, Number}
use Rattle.lw_grammar.specs.declared.declared_types.UnionDef.{UnionDef}
use Rattle.lw_grammar.specs.declared.declared_types.Member.{Member}
use Rattle.lw_grammar.specs.declared.declared_types.Member.TheVariants.{Named}
use Rattle.lw_grammar.specs.Named.{declared_union, declared_interface}
use Rattle.lw_faults.specs.Attributes.{Plain, TextsOf, IsTypeOfTexts, TakesKind}
use Rattle.lw_faults.specs.Attributes as kind
use Rattle.lw_faults.specs.Worked.{no_place, x_id, union_of, id_element, resulting}
use Rattle.lw_grammar.proofs.Every.{first_here, meant}
use Rattle.lw_faults.proofs.DataTypesWorked.{A, here, id_is_text, x_makes}

abbrev a_member : Member
a_member = Named (codes "A") no_place

of_texts : (unions : List UnionDef) → IsTypeOfTexts (resulting Own unions id_element) (codes "A")
of_texts unions = record {
  rule = A Own unions id_element;
  among = here Own unions id_element;
  reads_text = id_is_text Own unions (A Own unions id_element) (here Own unions id_element);
  of_type = (refl, refl);
}

pub string : TakesKind (resulting Own [] id_element) a_member (Plain Text)
string = kind.text (of_texts []) kind.string

pub of_rule : (type_name : List ℕ) → TakesKind (resulting Own [] id_element) a_member (TextsOf type_name)
of_rule type_name = kind.text (of_texts []) kind.of_rule

pub number : ¬ TakesKind (resulting Own [] id_element) a_member (Plain Number)
number (kind.text of is) = elim is [ ]
number (kind.union u union m is inside does) = none-some union is.first.there

pub node : ¬ TakesKind (resulting Own [] x_id) a_member (Plain Text)
node (kind.text of is) = x_makes Own [] of.rule of.among of.reads_text
node (kind.union u union m is inside does) = none-some union is.first.there

abbrev us : List UnionDef
us = union_of a_member ∷ []

pub union : TakesKind (resulting Own us id_element) (Named (codes "U") no_place) (Plain Text)
union =
    kind.union 0 (union_of a_member) a_member (meant declared_union declared_interface (codes "U") us [] 0 (union_of a_member) (first_here refl) tt) (0, omega arith, refl)
    (kind.text (of_texts us) kind.string)
