-- The places of all that a grammar file says, at every depth, and that they are in its text.
use Rattle.std.specs.Prelude.{ℕ, ◌≤◌, List, [], ◌∷◌, ◌++◌, length, map, All}
use Rattle.std.specs.List.{flat_map}
use Rattle.lw_base.specs.declared.token.Span.{Span}
use Rattle.lw_grammar.specs.declared.grammar.Grammar.{Grammar}
use Rattle.lw_grammar.specs.declared.rule.Rule.{Rule}
use Rattle.lw_grammar.specs.declared.rule.RuleResult.{RuleResult}
use Rattle.lw_grammar.specs.declared.rule.RuleResult.TheVariants as result
use Rattle.lw_grammar.specs.declared.rule.Element.{Element, fold-Element}
use Rattle.lw_grammar.specs.declared.rule.Element.TheOpen as layer
use Rattle.lw_grammar.specs.declared.rule.Element.TheOpen.{Element-F}
use Rattle.lw_grammar.specs.declared.rule.Value0.{Value0, fold-Value0}
use Rattle.lw_grammar.specs.declared.rule.Value0.TheOpen as value
use Rattle.lw_grammar.specs.declared.rule.Value0.TheOpen.{Value0-F}
use Rattle.lw_grammar.specs.declared.terminal.Terminal.{Terminal}
use Rattle.lw_grammar.specs.declared.terminal.TermElement.{TermElement, fold-TermElement}
use Rattle.lw_grammar.specs.declared.terminal.TermElement.TheOpen as term
use Rattle.lw_grammar.specs.declared.terminal.TermElement.TheOpen.{TermElement-F}
use Rattle.lw_grammar.specs.declared.declared_types.Interface.{Interface}
use Rattle.lw_grammar.specs.declared.declared_types.Attribute.{Attribute}
use Rattle.lw_grammar.specs.declared.declared_types.UnionDef.{UnionDef}
use Rattle.lw_grammar.specs.declared.declared_types.Member.{Member}
use Rattle.lw_grammar.specs.declared.declared_types.Member.TheVariants as member
use Rattle.lw_gramread.specs.declared.reader.ReadFault.{ReadFault}
use Rattle.lw_gramread.specs.declared.reader.ReadFault.TheVariants.{Unexpected, LeftOut, TooDeep, NoMemory}

-- both ends are in the text or at its end
abbrev pub IsWithin : List ℕ → Span → Type 0
IsWithin text s = (s.start ≤ length text) × (s.end ≤ length text)

-- ---- the places, the outer one before the inner ones

abbrev pub value_layer_spans : Value0-F (List Span) → List Span
value_layer_spans (value.Keyword text s) = s ∷ []
value_layer_spans (value.Call name s) = s ∷ []
value_layer_spans (value.Cross type_name rule s) = s ∷ []
value_layer_spans (value.Choice parts s) = s ∷ flat_map (λ ss. ss) parts

abbrev pub value_spans : Value0 → List Span
value_spans = fold-Value0 (List Span) value_layer_spans

abbrev pub layer_spans : Element-F (List Span) → List Span
layer_spans (layer.Keyword text s) = s ∷ []
layer_spans (layer.Call name s) = s ∷ []
layer_spans (layer.Assign p op v s) = s ∷ value_spans v
layer_spans (layer.Act a) = a.span ∷ []
layer_spans (layer.Group parts s) = s ∷ flat_map (λ ss. ss) parts
layer_spans (layer.Choice parts s) = s ∷ flat_map (λ ss. ss) parts
layer_spans (layer.Maybe part s) = s ∷ part
layer_spans (layer.Many part s) = s ∷ part
layer_spans (layer.Some1 part s) = s ∷ part

abbrev pub element_spans : Element → List Span
element_spans = fold-Element (List Span) layer_spans

abbrev pub result_spans : RuleResult → List Span
result_spans result.Own = []
result_spans (result.Returns name s) = s ∷ []
result_spans (result.Gives primitive) = []
result_spans (result.Infers name s) = s ∷ []

abbrev pub rule_spans : Rule → List Span
rule_spans r = r.span ∷ result_spans r.result ++ element_spans r.body

abbrev pub term_layer_spans : TermElement-F (List Span) → List Span
term_layer_spans (term.Literal text s) = s ∷ []
term_layer_spans (term.Range first last s) = s ∷ []
term_layer_spans (term.Pattern text s) = s ∷ []
term_layer_spans (term.Call name s) = s ∷ []
term_layer_spans (term.Group parts) = flat_map (λ ss. ss) parts
term_layer_spans (term.Choice parts) = flat_map (λ ss. ss) parts
term_layer_spans (term.Maybe part) = part
term_layer_spans (term.Many part) = part
term_layer_spans (term.Some1 part) = part

abbrev pub term_spans : TermElement → List Span
term_spans = fold-TermElement (List Span) term_layer_spans

abbrev pub terminal_spans : Terminal → List Span
terminal_spans t = t.span ∷ term_spans t.body

abbrev pub member_spans : Member → List Span
member_spans (member.Named name s) = s ∷ []
member_spans (member.Refers name s) = s ∷ []
member_spans (member.Plain primitive) = []
member_spans (member.Literal text) = []

abbrev pub attribute_spans : Attribute → List Span
attribute_spans a = a.span ∷ flat_map member_spans a.members

abbrev pub interface_spans : Interface → List Span
interface_spans i = i.span ∷ map (λ above. above.1) i.above ++ flat_map attribute_spans i.attributes

abbrev pub union_spans : UnionDef → List Span
union_spans u = u.span ∷ flat_map member_spans u.members

-- ---- they are in the text

module _ (text : List ℕ) where
  pub record StandsWithin (g : Grammar) : Type 0 where
    pub rules : All (λ r. All (IsWithin text) (rule_spans r)) g.rules
    pub terminals : All (λ t. All (IsWithin text) (terminal_spans t)) g.terminals
    pub interfaces : All (λ i. All (IsWithin text) (interface_spans i)) g.interfaces
    pub unions : All (λ u. All (IsWithin text) (union_spans u)) g.unions
    pub imports : All (λ i. IsWithin text i.span) g.imports

  -- the place of a refusal
  abbrev pub IsRefusalWithin : ReadFault → Type 0
  IsRefusalWithin (Unexpected s) = IsWithin text s
  IsRefusalWithin (LeftOut s form) = IsWithin text s
  IsRefusalWithin (TooDeep s) = IsWithin text s
  IsRefusalWithin NoMemory = Unit {0}
