-- Which values are put in by what is assigned, and which ones a declared property takes.
use Rattle.std.specs.Prelude.{ℕ, ◌≡◌, List, [], ◌∷◌, ◌++◌, Option, Some, None, Contains}
use Rattle.lw_base.specs.declared.token.Span.{Span}
use Rattle.lw_grammar.specs.declared.grammar.Grammar.{Grammar}
use Rattle.lw_grammar.specs.declared.rule.Op.{Op}
use Rattle.lw_grammar.specs.declared.rule.Op.TheVariants.{One, Add, Flag}
use Rattle.lw_grammar.specs.declared.rule.Value0.{Value0}
use Rattle.lw_grammar.specs.declared.terminal.Primitive.{Primitive}
use Rattle.lw_grammar.specs.declared.terminal.Primitive.TheVariants.{Text, Boolean}
use Rattle.lw_grammar.specs.declared.declared_types.Member.{Member}
use Rattle.lw_grammar.specs.declared.declared_types.Member.TheVariants as member
use Rattle.lw_grammar.specs.declared.declared_types.UnionDef.{UnionDef}
use Rattle.lw_grammar.specs.declared.declared_types.ValueKind.{ValueKind}
use Rattle.lw_grammar.specs.declared.declared_types.ValueKind.TheVariants.{Plain, Nodes, Refs}
use Rattle.lw_grammar.specs.Leaves.{ValueLeaf, value_leaves}
use Rattle.lw_grammar.specs.Named.{IsUnion}
use Rattle.lw_faults.specs.Attributes.{Kind, IsKindOf, IsTypeOfTexts}
use Rattle.lw_faults.specs.Attributes as is
use Rattle.lw_flow.specs.Effects.{type_number}
use Rattle.lw_properties.specs.Typed.{IsTypeOfNodes}

-- nodes of the type of this number, and references to them
abbrev pub nodes_of : ℕ → ValueKind
nodes_of n = Nodes (record { 0 = n })

abbrev pub refs_to : ℕ → ValueKind
refs_to n = Refs (record { 0 = n })

-- the value, where there is a number
abbrev pub numbered : (ℕ → ValueKind) → Option ℕ → List ValueKind
numbered value None = []
numbered value (Some n) = value n ∷ []

module _ (g : Grammar) where
  -- ---- what is assigned

  -- a text that a data type rule reads is a `string`, whatever its type is called
  abbrev pub values_of_kind : Kind → List ValueKind
  values_of_kind (is.Plain primitive) = Plain primitive ∷ []
  values_of_kind (is.TextsOf type_name) = Plain Text ∷ []
  values_of_kind (is.NodesOf type_name) = numbered nodes_of (type_number g type_name)
  values_of_kind (is.ReferencesTo wanted) = numbered refs_to (type_number g wanted)

  -- the value of a part of what is assigned. A call of a fragment or of nothing gives none.
  pub data PartGives : ValueLeaf → List ValueKind → Type 0 where
    value : {part : ValueLeaf} (kind : Kind) → IsKindOf g part kind → PartGives part (values_of_kind kind)
    nothing : {part : ValueLeaf} → ((kind : Kind) → ¬ IsKindOf g part kind) → PartGives part []

  -- those of several, one after the other
  pub data PartsGive : List ValueLeaf → List ValueKind → Type 0 where
    none : PartsGive [] []
    more : {part : ValueLeaf} {parts : List ValueLeaf} {first others : List ValueKind} → PartGives part first → PartsGive parts others →
        PartsGive (part ∷ parts) (first ++ others)

  -- `?=` gives a `boolean`, whatever is read
  abbrev pub AssignmentGives : Op → Value0 → List ValueKind → Type 0
  AssignmentGives One v values = PartsGive (value_leaves v) values
  AssignmentGives Add v values = PartsGive (value_leaves v) values
  AssignmentGives Flag v values = values ≡ Plain Boolean ∷ []

  -- ---- what is declared

  -- texts have this type and nodes have not: it is that of a data type rule, and of no rule that makes nodes
  pub record IsTextType (type_name : List ℕ) : Type 0 where
    pub texts : IsTypeOfTexts g type_name
    pub no_nodes : ¬ IsTypeOfNodes g type_name

  -- the member names a type that texts have
  abbrev pub NamesTexts : Member → Type 0
  NamesTexts (member.Named name s) = IsTypeOfTexts g name
  NamesTexts _ = ⊥

  -- what such a member gives ahead of all else: a `string`
  pub data TextGives (m : Member) : List ValueKind → Type 0 where
    text : NamesTexts m → TextGives m (Plain Text ∷ [])
    no_text : ¬ NamesTexts m → TextGives m []

  -- the value of a member that names no union, behind that text. A name gives nodes, but for that of a type which texts have and nodes have not.
  pub data MemberGives : Member → List ValueKind → Type 0 where
    plain : {primitive : Primitive} → MemberGives (member.Plain primitive) (Plain primitive ∷ [])
    literal : {text : List ℕ} → MemberGives (member.Literal text) (Plain Text ∷ [])
    references : {name : List ℕ} {s : Span} → MemberGives (member.Refers name s) (numbered refs_to (type_number g name))
    no_nodes : {name : List ℕ} {s : Span} → ((u : ℕ) (union : UnionDef) → ¬ IsUnion g name u union) → IsTextType name → MemberGives (member.Named name s) []
    nodes : {name : List ℕ} {s : Span} → ((u : ℕ) (union : UnionDef) → ¬ IsUnion g name u union) → ¬ IsTextType name →
        MemberGives (member.Named name s) (numbered nodes_of (type_number g name))

  -- `MembersGive looked members values`: those of several, one after the other, each behind the text that the member gives. In the place of
  -- one that names a union stand the union's members. A union is looked into once: `looked` has the numbers of those that were.
  pub data MembersGive : List ℕ → List Member → List ValueKind → Type 0 where
    none : {looked : List ℕ} → MembersGive looked [] []
    value : {looked : List ℕ} {m : Member} {members : List Member} {texts first others : List ValueKind} → TextGives m texts → MemberGives m first →
        MembersGive looked members others → MembersGive looked (m ∷ members) (texts ++ first ++ others)
    union : {looked name : List ℕ} {s : Span} {members : List Member} {texts values : List ValueKind} (u : ℕ) (union : UnionDef) → IsUnion g name u union →
        ¬ Contains looked u → TextGives (member.Named name s) texts → MembersGive (u ∷ looked) (union.members ++ members) values →
        MembersGive looked (member.Named name s ∷ members) (texts ++ values)
    again : {looked name : List ℕ} {s : Span} {members : List Member} {texts values : List ValueKind} (u : ℕ) (union : UnionDef) → IsUnion g name u union →
        Contains looked u → TextGives (member.Named name s) texts → MembersGive looked members values →
        MembersGive looked (member.Named name s ∷ members) (texts ++ values)
