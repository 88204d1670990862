-- Faults of properties: 14 unknown property, 15 wrong property form, 16 mixed property, 17 not a subtype.
use Rattle.std.specs.Prelude.{ℕ, ◌≡◌, ◌≢◌, ◌<◌, ◌⊎◌, List, Some, Bool, true, false, Contains}
use Rattle.lw_base.specs.declared.token.Span.{Span}
use Rattle.lw_grammar.specs.declared.grammar.Grammar.{Grammar}
use Rattle.lw_grammar.specs.declared.rule.Rule.{Rule}
use Rattle.lw_grammar.specs.declared.rule.Op.{Op}
use Rattle.lw_grammar.specs.declared.rule.Op.TheVariants.{One, Add, Flag}
use Rattle.lw_grammar.specs.declared.rule.Value0.{Value0}
use Rattle.lw_grammar.specs.declared.rule.Action.{Action}
use Rattle.lw_grammar.specs.declared.terminal.Primitive.TheVariants.{Boolean}
use Rattle.lw_grammar.specs.declared.declared_types.Attribute.{Attribute}
use Rattle.lw_grammar.specs.declared.declared_types.Member.{Member}
use Rattle.lw_grammar.specs.Leaves as leaf
use Rattle.lw_grammar.specs.Leaves.{ValueLeaf, value_leaves}
use Rattle.lw_grammar.specs.Subtypes.{HasType, IsDeclared, IsSubtype}
use Rattle.lw_grammar.specs.Written.{IsInferredType}
use Rattle.lw_faults.specs.Steps.{Step, step, IsBehind, CallsNode, IsCurrentType}
use Rattle.lw_faults.specs.Attributes.{Kind, Plain, NodesOf, HasAttribute, HasNoAttribute, IsKindOf, TakesKind}

-- whether an operator puts its value at the end of a list
abbrev pub is_list : Op → Bool
is_list Add = true
is_list _ = false

module _ (g : Grammar) where
  -- no member of the attribute takes such a value
  abbrev pub IsRefusedKind : Attribute → Kind → Type 0
  IsRefusedKind attribute kind = (m : Member) → Contains attribute.members m → ¬ TakesKind g m kind

  -- the assignment has another form than the attribute: `?=` asks for `boolean` alone, the others for a list or none, and for their values
  pub data MisfitsAttribute (attribute : Attribute) (v : Value0) : Op → Type 0 where
    no_flag : IsRefusedKind attribute (Plain Boolean) → MisfitsAttribute attribute v Flag
    no_list : attribute.list ≡ false → MisfitsAttribute attribute v Add
    list : attribute.list ≡ true → MisfitsAttribute attribute v One
    value : {op : Op} (x : ValueLeaf) (kind : Kind) → op ≢ Flag → Contains (value_leaves v) x → IsKindOf g x kind → IsRefusedKind attribute kind →
        MisfitsAttribute attribute v op

  -- an assignment or action puts something into a property that the declared type does not have
  pub data UnknownProperty : ℕ → Span → List ℕ → Type 0 where
    assigned : (rule written : Rule) (before : List Step) (p : List ℕ) (op : Op) (v : Value0) (s : Span) (type_name : List ℕ) →
        IsBehind g rule before (step written (leaf.Assign p op v s)) → IsCurrentType g rule before type_name → IsDeclared g type_name →
        HasNoAttribute g type_name p → UnknownProperty written.file s p
    acted : (rule written : Rule) (before : List Step) (a : Action) (put : List ℕ × Bool) → IsBehind g rule before (step written (leaf.Act a)) → a.put ≡ Some put →
        IsDeclared g a.type_name → HasNoAttribute g a.type_name put.0 → UnknownProperty written.file a.span put.0

  -- what is put in has not the form of the declared property
  pub data WrongPropertyForm : ℕ → Span → List ℕ → Type 0 where
    assigned : (rule written : Rule) (before : List Step) (p : List ℕ) (op : Op) (v : Value0) (s : Span) (type_name : List ℕ) (attribute : Attribute) →
        IsBehind g rule before (step written (leaf.Assign p op v s)) → IsCurrentType g rule before type_name → IsDeclared g type_name →
        HasAttribute g type_name p attribute → MisfitsAttribute attribute v op → WrongPropertyForm written.file s p
    put_as_other : (rule written : Rule) (before : List Step) (a : Action) (put : List ℕ × Bool) (attribute : Attribute) →
        IsBehind g rule before (step written (leaf.Act a)) → a.put ≡ Some put → IsDeclared g a.type_name → HasAttribute g a.type_name put.0 attribute →
        attribute.list ≢ put.1 → WrongPropertyForm written.file a.span put.0
    put_not_taken : (rule written : Rule) (before : List Step) (a : Action) (put : List ℕ × Bool) (attribute : Attribute) (type_name : List ℕ) →
        IsBehind g rule before (step written (leaf.Act a)) → a.put ≡ Some put → IsDeclared g a.type_name → HasAttribute g a.type_name put.0 attribute →
        IsCurrentType g rule before type_name → IsRefusedKind attribute (NodesOf type_name) → WrongPropertyForm written.file a.span put.0

  -- `PutsInto type p list file s`: at this place something is put into the property p of the type, at the end of a list or not
  pub data PutsInto : List ℕ → List ℕ → Bool → ℕ → Span → Type 0 where
    assigned : {type_name p : List ℕ} {op : Op} {s : Span} (rule written : Rule) (before : List Step) (v : Value0) →
        IsBehind g rule before (step written (leaf.Assign p op v s)) → IsCurrentType g rule before type_name → PutsInto type_name p (is_list op) written.file s
    acted : (rule written : Rule) (before : List Step) (a : Action) (put : List ℕ × Bool) → IsBehind g rule before (step written (leaf.Act a)) → a.put ≡ Some put →
        PutsInto a.type_name put.0 put.1 written.file a.span

  -- a property of a type that is inferred, and not declared, is a list here, and none at a place before, or the other way round
  pub data MixedProperty : ℕ → Span → List ℕ → Type 0 where
    mixed : {type_name p : List ℕ} {list other : Bool} {file before : ℕ} {s t : Span} → IsInferredType g type_name → ¬ IsDeclared g type_name →
        PutsInto type_name p list file s → PutsInto type_name p other before t → list ≢ other → (before < file) ⊎ ((before ≡ file) × (t.start < s.start)) →
        MixedProperty file s p

  -- a rule of a declared type makes a node of a type that is not below it
  pub data NotASubtype : ℕ → Span → List ℕ → Type 0 where
    acted : (rule written : Rule) (before : List Step) (a : Action) (type_name : List ℕ) → IsBehind g rule before (step written (leaf.Act a)) →
        HasType g rule type_name → IsDeclared g type_name → ¬ IsSubtype g a.type_name type_name → NotASubtype written.file a.span a.type_name
    called : (rule written called : Rule) (before : List Step) (name : List ℕ) (s : Span) (type_name below : List ℕ) →
        IsBehind g rule before (step written (leaf.Call name s)) → CallsNode g (leaf.Call name s) called → HasType g rule type_name → IsDeclared g type_name →
        HasType g called below → ¬ IsSubtype g below type_name → NotASubtype written.file s name
