-- The code's own words of what a value is, and of what a member takes by itself.
use Rattle.std.specs.Prelude.{ℕ, ◌≡◌, List, Option, Some, None, Bool, true, false, Contains}
use Rattle.lw_grammar.specs.declared.grammar.Grammar.{Grammar}
use Rattle.lw_grammar.specs.declared.rule.RuleResult.{RuleResult}
use Rattle.lw_grammar.specs.declared.rule.RuleResult.TheVariants.{Own, Returns, Gives, Infers}
use Rattle.lw_grammar.specs.declared.terminal.Primitive.TheVariants.{Text}
use Rattle.lw_grammar.specs.declared.declared_types.UnionDef.{UnionDef}
use Rattle.lw_grammar.specs.declared.declared_types.Member.{Member}
use Rattle.lw_grammar.specs.declared.declared_types.Member.TheVariants as member
use Rattle.lw_grammar.specs.Named.{IsUnion}
use Rattle.lw_grammar.specs.Subtypes.{IsSubtype}
use Rattle.lw_faults.specs.Attributes.{Kind, Plain, TextsOf, NodesOf, ReferencesTo, IsTypeOfTexts, TakesKind}
use Rattle.lw_properties.specs.declared.kinds.ValueIs.{ValueIs}
use Rattle.lw_properties.specs.declared.kinds.ValueIs.TheVariants as value

abbrev pub kind_of_value : ValueIs → Kind
kind_of_value (value.Plain primitive) = Plain primitive
kind_of_value (value.TextsOf type_name) = TextsOf type_name.now
kind_of_value (value.NodesOf type_name) = NodesOf type_name.now
kind_of_value (value.ReferencesTo wanted) = ReferencesTo wanted.now

-- the type of a rule, from whether it is a fragment, its result and its own name
abbrev pub rule_type : Bool → RuleResult → List ℕ → Option (List ℕ)
rule_type true result own = None
rule_type false Own own = Some own
rule_type false (Returns name s) own = Some name
rule_type false (Gives primitive) own = None
rule_type false (Infers name s) own = Some name

abbrev pub typed_kind : Bool → List ℕ → Kind
typed_kind true name = NodesOf name
typed_kind false name = TextsOf name

-- what a call of a rule is, from whether it is a fragment, whether it makes nodes, its result and its own name
abbrev pub rule_kind : Bool → Bool → RuleResult → List ℕ → Option Kind
rule_kind true makes result own = None
rule_kind false makes Own own = Some (typed_kind makes own)
rule_kind false makes (Returns name s) own = Some (typed_kind makes name)
rule_kind false true (Gives primitive) own = None
rule_kind false false (Gives primitive) own = Some (Plain primitive)
rule_kind false makes (Infers name s) own = Some (typed_kind makes name)

module _ (g : Grammar) where
  -- the member takes such values, and no union is looked into
  abbrev pub TakesDirectly : Member → Kind → Type 0
  TakesDirectly (member.Plain p) (Plain q) = p ≡ q
  TakesDirectly (member.Plain p) (TextsOf type_name) = p ≡ Text
  TakesDirectly (member.Literal text) (Plain q) = q ≡ Text
  TakesDirectly (member.Literal text) (TextsOf type_name) = Unit {0}
  TakesDirectly (member.Named name s) (NodesOf type_name) = IsSubtype g type_name name
  TakesDirectly (member.Named name s) (TextsOf type_name) = IsTypeOfTexts g name
  TakesDirectly (member.Named name s) (Plain q) = (q ≡ Text) × IsTypeOfTexts g name
  TakesDirectly (member.Refers name s) (ReferencesTo wanted) = IsSubtype g wanted name
  TakesDirectly _ _ = ⊥

  -- the member names this union, which has this number
  abbrev pub NamesUnion : Member → ℕ → UnionDef → Type 0
  NamesUnion (member.Named name s) u union = IsUnion g name u union
  NamesUnion _ u union = ⊥

  -- one of the members takes such values
  abbrev pub SomeTakes : List Member → Kind → Type 0
  SomeTakes members kind = (m : Member) × Contains members m × TakesKind g m kind
