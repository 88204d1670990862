-- The names that a grammar writes, each with what it does where it stands, in the order in which the code goes through the grammar. These lists
-- are the code's own words: lemmas say that a name stands in them exactly where the definitions of faults speak of it.
use Rattle.std.specs.Prelude.{ℕ, List, [], ◌∷◌, ◌++◌, Bool, true, false, Option, Some, None}
use Rattle.std.specs.List.{flat_map}
use Rattle.lw_base.specs.declared.token.Span.{Span}
use Rattle.lw_grammar.specs.declared.grammar.Grammar.{Grammar}
use Rattle.lw_grammar.specs.declared.rule.Rule.{Rule}
use Rattle.lw_grammar.specs.declared.rule.RuleResult.{RuleResult}
use Rattle.lw_grammar.specs.declared.rule.RuleResult.TheVariants.{Own, Returns, Gives, Infers}
use Rattle.lw_grammar.specs.declared.terminal.Terminal.{Terminal}
use Rattle.lw_grammar.specs.declared.declared_types.Interface.{Interface}
use Rattle.lw_grammar.specs.declared.declared_types.Attribute.{Attribute}
use Rattle.lw_grammar.specs.declared.declared_types.UnionDef.{UnionDef}
use Rattle.lw_grammar.specs.declared.declared_types.Member.{Member}
use Rattle.lw_grammar.specs.declared.declared_types.Member.TheVariants as member
use Rattle.lw_grammar.specs.Leaves as leaf
use Rattle.lw_grammar.specs.Leaves.{Leaf, ValueLeaf, leaves, value_leaves}
use Rattle.lw_grammar.specs.Written.{term_calls}
use Rattle.lw_types.specs.declared.naming.mentions.Role.{Role}
use Rattle.lw_types.specs.declared.naming.mentions.Role.TheVariants.{InfersType, CallsRule, NamesType, WantsNameRule}
use Rattle.lw_types.specs.declared.naming.mentions.Mention.{Mention}

pub record NameUse : Type 0 where
  pub role : Role
  pub file : ℕ
  pub place : Span
  pub name : List ℕ

abbrev pub name_use : Role → ℕ → List ℕ → Span → NameUse
name_use role file name place = record { role = role; file = file; place = place; name = name }

abbrev pub use_of : Mention → NameUse
use_of mention = name_use mention.role mention.file mention.name.now mention.span

-- ---- rules, in the file of this number

-- of a cross-reference to this type, with the rule that it writes
abbrev pub crossing_uses : ℕ → List ℕ → Option (List ℕ) → Span → List NameUse
crossing_uses file wanted (Some rule) s = name_use NamesType file wanted s ∷ name_use CallsRule file rule s ∷ []
crossing_uses file wanted None s = name_use NamesType file wanted s ∷ name_use WantsNameRule file wanted s ∷ []

abbrev pub value_uses : ℕ → ValueLeaf → List NameUse
value_uses file (leaf.Literal text s) = []
value_uses file (leaf.Calls name s) = name_use CallsRule file name s ∷ []
value_uses file (leaf.Cross wanted rule s) = crossing_uses file wanted rule s

abbrev pub action_role : (infers : Bool) → Role
action_role true = InfersType
action_role false = NamesType

abbrev pub leaf_uses : ℕ → Leaf → List NameUse
leaf_uses file (leaf.Keyword text s) = []
leaf_uses file (leaf.Call name s) = name_use CallsRule file name s ∷ []
leaf_uses file (leaf.Assign p op v s) = flat_map (value_uses file) (value_leaves v)
leaf_uses file (leaf.Act a) = name_use (action_role a.infers) file a.type_name a.span ∷ []

-- a fragment infers no type
abbrev pub unless_fragment : (fragment : Bool) → NameUse → List NameUse
unless_fragment true one = []
unless_fragment false one = one ∷ []

abbrev pub result_uses : Rule → RuleResult → List NameUse
result_uses rule Own = unless_fragment rule.is_fragment (name_use InfersType rule.file rule.name rule.span)
result_uses rule (Returns name s) = name_use NamesType rule.file name s ∷ []
result_uses rule (Gives primitive) = []
result_uses rule (Infers name s) = unless_fragment rule.is_fragment (name_use InfersType rule.file name s)

abbrev pub rule_uses : Rule → List NameUse
rule_uses rule = result_uses rule rule.result ++ flat_map (leaf_uses rule.file) (leaves rule.body)

-- ---- terminals

abbrev pub called_uses : ℕ → List ℕ × Span → List NameUse
called_uses file call = name_use CallsRule file call.0 call.1 ∷ []

abbrev pub terminal_uses : Terminal → List NameUse
terminal_uses terminal = flat_map (called_uses terminal.file) (term_calls terminal.body)

-- ---- declared types

abbrev pub named_uses : ℕ → List ℕ × Span → List NameUse
named_uses file named = name_use NamesType file named.0 named.1 ∷ []

abbrev pub member_uses : ℕ → Member → List NameUse
member_uses file (member.Named name s) = name_use NamesType file name s ∷ []
member_uses file (member.Refers name s) = name_use NamesType file name s ∷ []
member_uses file (member.Plain primitive) = []
member_uses file (member.Literal text) = []

abbrev pub attribute_uses : ℕ → Attribute → List NameUse
attribute_uses file attribute = flat_map (member_uses file) attribute.members

abbrev pub interface_uses : Interface → List NameUse
interface_uses interface = flat_map (named_uses interface.file) interface.above ++ flat_map (attribute_uses interface.file) interface.attributes

abbrev pub union_uses : UnionDef → List NameUse
union_uses union = flat_map (member_uses union.file) union.members

-- ---- all

abbrev pub uses : Grammar → List NameUse
uses g =
    ((flat_map rule_uses g.rules ++ flat_map terminal_uses g.terminals) ++ flat_map interface_uses g.interfaces) ++ flat_map union_uses g.unions
