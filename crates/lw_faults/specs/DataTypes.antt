-- Fault 13: mixed data type rule.
use Rattle.std.specs.Prelude.{ℕ, ◌≡◌, List, All, Contains}
use Rattle.lw_base.specs.declared.token.Span.{Span}
use Rattle.lw_grammar.specs.declared.grammar.Grammar.{Grammar}
use Rattle.lw_grammar.specs.declared.rule.Rule.{Rule}
use Rattle.lw_grammar.specs.declared.rule.RuleResult.TheVariants.{Returns, Gives, Infers}
use Rattle.lw_grammar.specs.declared.terminal.Primitive.{Primitive}
use Rattle.lw_grammar.specs.declared.declared_types.UnionDef.{UnionDef}
use Rattle.lw_grammar.specs.declared.declared_types.Member.{Member}
use Rattle.lw_grammar.specs.declared.declared_types.Member.TheVariants.{Plain, Literal}
use Rattle.lw_grammar.specs.Named.{IsUnion}
use Rattle.lw_grammar.specs.Nodes.{IsDataType}

-- a primitive type or a text that is written out
pub data IsPlainMember : Member → Type 0 where
  plain : {p : Primitive} → IsPlainMember (Plain p)
  literal : {text : List ℕ} → IsPlainMember (Literal text)

module _ (g : Grammar) where
  -- a union of these alone
  abbrev pub IsPlainUnion : List ℕ → Type 0
  IsPlainUnion name = (u : ℕ) × (union : UnionDef) × IsUnion g name u union × All IsPlainMember union.members

  -- A rule returns a primitive type and is no data type rule; or a data type rule infers a type, or returns one that is no union of primitive types
  -- and texts.
  pub data MixedDataTypeRule : ℕ → Span → List ℕ → Type 0 where
    gives : (rule : Rule) (p : Primitive) → Contains g.rules rule → rule.result ≡ Gives p → ¬ IsDataType g rule → MixedDataTypeRule rule.file rule.span rule.name
    infers : (rule : Rule) (name : List ℕ) (s : Span) → Contains g.rules rule → IsDataType g rule → rule.result ≡ Infers name s →
        MixedDataTypeRule rule.file rule.span rule.name
    returns : (rule : Rule) (name : List ℕ) (s : Span) → Contains g.rules rule → IsDataType g rule → rule.result ≡ Returns name s → ¬ IsPlainUnion name →
        MixedDataTypeRule rule.file rule.span rule.name
