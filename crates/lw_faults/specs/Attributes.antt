-- Which attributes a declared type has, and which values one takes.
use Rattle.std.specs.Prelude.{ℕ, ◌≡◌, List, [], ◌∷◌, ◌++◌, Some, None, map, Contains}
use Rattle.std.specs.List.{flat_map}
use Rattle.lw_base.specs.declared.token.Span.{Span}
use Rattle.lw_grammar.specs.declared.grammar.Grammar.{Grammar}
use Rattle.lw_grammar.specs.declared.rule.Rule.{Rule}
use Rattle.lw_grammar.specs.declared.rule.RuleResult.TheVariants.{Gives}
use Rattle.lw_grammar.specs.declared.terminal.Terminal.{Terminal}
use Rattle.lw_grammar.specs.declared.terminal.Primitive.{Primitive}
use Rattle.lw_grammar.specs.declared.terminal.Primitive.TheVariants.{Text}
use Rattle.lw_grammar.specs.declared.declared_types.Interface.{Interface}
use Rattle.lw_grammar.specs.declared.declared_types.Attribute.{Attribute}
use Rattle.lw_grammar.specs.declared.declared_types.UnionDef.{UnionDef}
use Rattle.lw_grammar.specs.declared.declared_types.Member.{Member}
use Rattle.lw_grammar.specs.declared.declared_types.Member.TheVariants as member
use Rattle.lw_grammar.specs.Leaves.{ValueLeaf, Literal, Calls, Cross}
use Rattle.lw_grammar.specs.Named.{IsFirst, IsRule, IsTerminal, IsInterface, IsUnion}
use Rattle.lw_grammar.specs.Nodes.{MakesNodes, IsDataType}
use Rattle.lw_grammar.specs.Subtypes.{HasType, IsSubtype}

-- what a value is to an attribute
pub data Kind : Type 0 where
  Plain : Primitive → Kind
  -- a text that a data type rule of this type reads
  TextsOf : List ℕ → Kind
  NodesOf : List ℕ → Kind
  ReferencesTo : List ℕ → Kind

-- the values that are texts: strings, and what a data type rule reads
pub data IsText : Kind → Type 0 where
  string : IsText (Plain Text)
  of_rule : {type_name : List ℕ} → IsText (TextsOf type_name)

module _ (g : Grammar) where
  -- The interfaces whose attributes a type has: its own, and those that it extends, depth first, each with all that it extends. One that
  -- extends itself is looked into once: `entered` numbers those that are open.
  mutual
    pub data Lineage : List ℕ → List ℕ → List Interface → Type 0 where
      interface : {entered name : List ℕ} {above : List Interface} (i : ℕ) (own : Interface) → IsInterface g name i own → ¬ Contains entered i →
          Lineages (i ∷ entered) (map (λ n. n.0) own.above) above → Lineage entered name (own ∷ above)
      looped : {entered name : List ℕ} (i : ℕ) (own : Interface) → IsInterface g name i own → Contains entered i → Lineage entered name []
      no_interface : {entered name : List ℕ} → ((i : ℕ) (own : Interface) → ¬ IsInterface g name i own) → Lineage entered name []

    pub data Lineages : List ℕ → List (List ℕ) → List Interface → Type 0 where
      none : {entered : List ℕ} → Lineages entered [] []
      more : {entered name : List ℕ} {names : List (List ℕ)} {first others : List Interface} → Lineage entered name first → Lineages entered names others →
          Lineages entered (name ∷ names) (first ++ others)

  -- the type's attribute of this name: where an interface declares again what one that it extends has, its own stands first
  pub record HasAttribute (type_name p : List ℕ) (attribute : Attribute) : Type 0 where
    pub lineage : List Interface
    pub all : Lineage [] type_name lineage
    pub at : ℕ
    pub first : IsFirst (λ a. a.name ≡ p) (flat_map (λ i. i.attributes) lineage) at attribute

  abbrev pub HasNoAttribute : List ℕ → List ℕ → Type 0
  HasNoAttribute type_name p = (attribute : Attribute) → ¬ HasAttribute type_name p attribute

  -- what a part of a value is. A call of an unknown rule or of a fragment of rules is nothing.
  pub data IsKindOf : ValueLeaf → Kind → Type 0 where
    literal : {text : List ℕ} {s : Span} → IsKindOf (Literal text s) (Plain Text)
    terminal : {name : List ℕ} {s : Span} (t : ℕ) (terminal : Terminal) → IsTerminal g name t terminal → IsKindOf (Calls name s) (Plain terminal.gives)
    primitive : {name : List ℕ} {s : Span} {gives : Primitive} (r : ℕ) (rule : Rule) → IsRule g name r rule → IsDataType g rule → rule.result ≡ Gives gives →
        IsKindOf (Calls name s) (Plain gives)
    text : {name type_name : List ℕ} {s : Span} (r : ℕ) (rule : Rule) → IsRule g name r rule → IsDataType g rule → HasType g rule type_name →
        IsKindOf (Calls name s) (TextsOf type_name)
    node : {name type_name : List ℕ} {s : Span} (r : ℕ) (rule : Rule) → IsRule g name r rule → MakesNodes g rule → HasType g rule type_name →
        IsKindOf (Calls name s) (NodesOf type_name)
    reference : {wanted name : List ℕ} {s : Span} → IsKindOf (Cross wanted (Some name) s) (ReferencesTo wanted)
    reference_by_name : {wanted : List ℕ} {s : Span} → IsKindOf (Cross wanted None s) (ReferencesTo wanted)

  -- texts have this type: it is that of a data type rule
  pub record IsTypeOfTexts (type_name : List ℕ) : Type 0 where
    pub rule : Rule
    pub among : Contains g.rules rule
    pub reads_text : IsDataType g rule
    pub of_type : HasType g rule type_name

  -- the member takes values of this kind. A text that is written out means `string`, the type of a data type rule takes every text, and a
  -- union takes what one of its members takes.
  pub data TakesKind : Member → Kind → Type 0 where
    plain : {p : Primitive} → TakesKind (member.Plain p) (Plain p)
    plain_text : {type_name : List ℕ} → TakesKind (member.Plain Text) (TextsOf type_name)
    literal : {text : List ℕ} → TakesKind (member.Literal text) (Plain Text)
    literal_text : {text type_name : List ℕ} → TakesKind (member.Literal text) (TextsOf type_name)
    node : {name type_name : List ℕ} {s : Span} → IsSubtype g type_name name → TakesKind (member.Named name s) (NodesOf type_name)
    text : {name : List ℕ} {s : Span} {kind : Kind} → IsTypeOfTexts name → IsText kind → TakesKind (member.Named name s) kind
    union : {name : List ℕ} {s : Span} {kind : Kind} (u : ℕ) (union : UnionDef) (m : Member) → IsUnion g name u union → Contains union.members m → TakesKind m kind →
        TakesKind (member.Named name s) kind
    reference : {name wanted : List ℕ} {s : Span} → IsSubtype g wanted name → TakesKind (member.Refers name s) (ReferencesTo wanted)
