-- The code's own words of what is asked of types.
use Rattle.std.specs.Prelude.{ℕ, List, Contains}
use Rattle.lw_grammar.specs.declared.grammar.Grammar.{Grammar}
use Rattle.lw_grammar.specs.declared.rule.Op.{Op}
use Rattle.lw_grammar.specs.declared.rule.Value0.{Value0}
use Rattle.lw_grammar.specs.declared.declared_types.Attribute.{Attribute}
use Rattle.lw_grammar.specs.Leaves.{ValueLeaf}
use Rattle.lw_grammar.specs.Subtypes.{IsDeclared, IsSubtype}
use Rattle.lw_faults.specs.Attributes.{Kind, NodesOf, HasAttribute, HasNoAttribute, IsKindOf}
use Rattle.lw_faults.specs.Properties.{IsRefusedKind, MisfitsAttribute}
use Rattle.lw_numbers.specs.Tables.{AreNumbersOf}
use Rattle.lw_numbers.specs.Kinship.{AreNodeRules, AreSubtypesOf}
use Rattle.lw_flow.specs.Recorded.{HasNumberOf}
use Rattle.lw_properties.specs.Known.{AreAttributesOf}
use Rattle.lw_properties.specs.Typed.{AreTextTypes}
use Rattle.lw_properties.specs.declared.known.Known.{Known}
use Rattle.lw_properties.specs.declared.questions.Question.{Question}
use Rattle.lw_properties.specs.declared.questions.Question.TheVariants.{Lacks, Misfits, IsRefused, IsNotAbove}

-- what is known is so of the grammar
pub record IsKnownIn (known : Known) : Type 0 where
  pub numbers : AreNumbersOf known.g.now known.numbers.now
  pub nodes : AreNodeRules known.g.now known.nodes.now
  pub subtypes : AreSubtypesOf known.g.now known.subtypes.now
  pub texts : AreTextTypes known.g.now known.texts.now
  pub attributes : AreAttributesOf known.g.now known.attributes

module _ (g : Grammar) where
  -- the declared type lacks the property
  abbrev pub LacksProperty : List ℕ → List ℕ → Type 0
  LacksProperty type_name p = IsDeclared g type_name × HasNoAttribute g type_name p

  -- the declared type has the property in another form
  abbrev pub MisfitsProperty : List ℕ → List ℕ → Op → Value0 → Type 0
  MisfitsProperty type_name p op v = IsDeclared g type_name × (attribute : Attribute) × HasAttribute g type_name p attribute × MisfitsAttribute g attribute v op

  -- one of these parts of a value is something that the attribute does not take
  abbrev pub RefusesSome : Attribute → List ValueLeaf → Type 0
  RefusesSome attribute parts = (x : ValueLeaf) × (kind : Kind) × Contains parts x × IsKindOf g x kind × IsRefusedKind g attribute kind

  abbrev pub Asks : Question → List ℕ → Type 0
  Asks (Lacks p) type_name = LacksProperty type_name p.now
  Asks (Misfits p op v) type_name = MisfitsProperty type_name p.now op v.now
  Asks (IsRefused attribute) type_name = IsRefusedKind g attribute.now (NodesOf type_name)
  Asks (IsNotAbove below) type_name = IsDeclared g type_name × ¬ IsSubtype g below.now type_name

  -- it holds of a type whose number is one of these
  abbrev pub SomeType : (List ℕ → Type 0) → List ℕ → Type 0
  SomeType P numbers = (type_name : List ℕ) × HasNumberOf g type_name numbers × P type_name
