-- Where the names of rules and types are written in a grammar, and which types it knows. A place is told by the number of its file and where it
-- is there, and with it stands the name that is spoken of.
use Rattle.std.specs.Prelude.{ℕ, ◌≡◌, ◌≢◌, List, [], ◌∷◌, ◌++◌, ◌⊎◌, map, Some, None, true, false, Contains, All, Any}
use Rattle.std.specs.List.{flat_map}
use Rattle.lw_base.specs.declared.token.Span.{Span}
use Rattle.lw_grammar.specs.declared.grammar.Grammar.{Grammar}
use Rattle.lw_grammar.specs.declared.rule.Rule.{Rule}
use Rattle.lw_grammar.specs.declared.rule.RuleResult.TheVariants.{Own, Returns, Infers}
use Rattle.lw_grammar.specs.declared.rule.Op.{Op}
use Rattle.lw_grammar.specs.declared.rule.Value0.{Value0}
use Rattle.lw_grammar.specs.declared.rule.Action.{Action}
use Rattle.lw_grammar.specs.declared.terminal.TermElement.{TermElement, fold-TermElement}
use Rattle.lw_grammar.specs.declared.terminal.TermElement.TheOpen as term
use Rattle.lw_grammar.specs.declared.terminal.TermElement.TheOpen.{TermElement-F}
use Rattle.lw_grammar.specs.declared.declared_types.Interface.{Interface}
use Rattle.lw_grammar.specs.declared.declared_types.Attribute.{Attribute}
use Rattle.lw_grammar.specs.declared.declared_types.UnionDef.{UnionDef}
use Rattle.lw_grammar.specs.declared.declared_types.Member.{Member}
use Rattle.lw_grammar.specs.declared.declared_types.Member.TheVariants.{Named, Refers}
use Rattle.lw_grammar.specs.Named.{Declaration, declared_rule, declared_terminal, declared_interface, declared_union}
use Rattle.lw_grammar.specs.Leaves.{Assign, Act, Call, leaves, Calls, Cross, value_leaves}

-- ---- rules and terminals

-- the rule's body writes a call of this name here: by itself, as a value, or in a cross-reference, whose place is its own
pub data WritesCall (rule : Rule) : Span → List ℕ → Type 0 where
  plain : {s : Span} {name : List ℕ} → Contains (leaves rule.body) (Call name s) → WritesCall rule s name
  assigned : {s : Span} {name : List ℕ} (p : List ℕ) (op : Op) (v : Value0) (t : Span) → Contains (leaves rule.body) (Assign p op v t) →
      Contains (value_leaves v) (Calls name s) → WritesCall rule s name
  crossed : {s : Span} {name : List ℕ} (p : List ℕ) (op : Op) (v : Value0) (t : Span) (wanted : List ℕ) → Contains (leaves rule.body) (Assign p op v t) →
      Contains (value_leaves v) (Cross wanted (Some name) s) → WritesCall rule s name

-- the calls of a terminal's body, with their places
abbrev pub term_layer_calls : TermElement-F (List (List ℕ × Span)) → List (List ℕ × Span)
term_layer_calls (term.Literal text s) = []
term_layer_calls (term.Range first last s) = []
term_layer_calls (term.Pattern text s) = []
term_layer_calls (term.Call name s) = (name, s) ∷ []
term_layer_calls (term.Group parts) = flat_map (λ calls. calls) parts
term_layer_calls (term.Choice parts) = flat_map (λ calls. calls) parts
term_layer_calls (term.Maybe part) = part
term_layer_calls (term.Many part) = part
term_layer_calls (term.Some1 part) = part

abbrev pub term_calls : TermElement → List (List ℕ × Span)
term_calls = fold-TermElement (List (List ℕ × Span)) term_layer_calls

-- its ranges: both ends, and the place
abbrev pub Range : Type 0
Range = List ℕ × List ℕ × Span

abbrev pub term_layer_ranges : TermElement-F (List Range) → List Range
term_layer_ranges (term.Literal text s) = []
term_layer_ranges (term.Range first last s) = (first, last, s) ∷ []
term_layer_ranges (term.Pattern text s) = []
term_layer_ranges (term.Call name s) = []
term_layer_ranges (term.Group parts) = flat_map (λ ranges. ranges) parts
term_layer_ranges (term.Choice parts) = flat_map (λ ranges. ranges) parts
term_layer_ranges (term.Maybe part) = part
term_layer_ranges (term.Many part) = part
term_layer_ranges (term.Some1 part) = part

abbrev pub term_ranges : TermElement → List Range
term_ranges = fold-TermElement (List Range) term_layer_ranges

-- ---- types

pub data MemberNames : Member → Span → List ℕ → Type 0 where
  named : {s : Span} {name : List ℕ} → MemberNames (Named name s) s name
  refers : {s : Span} {name : List ℕ} → MemberNames (Refers name s) s name

module _ (g : Grammar) where
  -- the declarations of both spaces of names
  abbrev pub rule_space : List Declaration
  rule_space = map declared_rule g.rules ++ map declared_terminal g.terminals

  abbrev pub type_space : List Declaration
  type_space = map declared_interface g.interfaces ++ map declared_union g.unions

  -- no rule or terminal has this name
  abbrev pub IsNoRule : List ℕ → Type 0
  IsNoRule name = All (λ rule. rule.name ≢ name) g.rules × All (λ terminal. terminal.name ≢ name) g.terminals

  -- an interface or a union has this name
  abbrev pub HasDeclaration : List ℕ → Type 0
  HasDeclaration name = Any (λ interface. interface.name ≡ name) g.interfaces ⊎ Any (λ union. union.name ≡ name) g.unions

  -- a type is named here: behind `returns` or `extends`, in a member, in a cross-reference, or in an action without `infer`
  pub data NamesType : ℕ → Span → List ℕ → Type 0 where
    returned : {s : Span} {name : List ℕ} (rule : Rule) → Contains g.rules rule → rule.result ≡ Returns name s → NamesType rule.file s name
    extending_type : {s : Span} {name : List ℕ} (interface : Interface) → Contains g.interfaces interface → Contains interface.above (name, s) →
        NamesType interface.file s name
    in_attribute : {s : Span} {name : List ℕ} (interface : Interface) (attribute : Attribute) (member : Member) → Contains g.interfaces interface →
        Contains interface.attributes attribute → Contains attribute.members member → MemberNames member s name → NamesType interface.file s name
    in_union : {s : Span} {name : List ℕ} (union : UnionDef) (member : Member) → Contains g.unions union → Contains union.members member →
        MemberNames member s name → NamesType union.file s name
    crossed : {s : Span} {name : List ℕ} (rule : Rule) (p : List ℕ) (op : Op) (v : Value0) (t : Span) → Contains g.rules rule →
        Contains (leaves rule.body) (Assign p op v t) → Contains (value_leaves v) (Cross name None s) → NamesType rule.file s name
    crossed_by : {s : Span} {name : List ℕ} (rule : Rule) (p : List ℕ) (op : Op) (v : Value0) (t : Span) (by : List ℕ) → Contains g.rules rule →
        Contains (leaves rule.body) (Assign p op v t) → Contains (value_leaves v) (Cross name (Some by) s) → NamesType rule.file s name
    acted : (rule : Rule) (a : Action) → Contains g.rules rule → Contains (leaves rule.body) (Act a) → a.infers ≡ false → NamesType rule.file a.span a.type_name

  -- a type is inferred here: by a rule of its own name, behind `infers`, or by an action with `infer`
  pub data InfersHere : ℕ → Span → List ℕ → Type 0 where
    own : (rule : Rule) → Contains g.rules rule → rule.is_fragment ≡ false → rule.result ≡ Own → InfersHere rule.file rule.span rule.name
    infers : {s : Span} {name : List ℕ} (rule : Rule) → Contains g.rules rule → rule.is_fragment ≡ false → rule.result ≡ Infers name s → InfersHere rule.file s name
    acted : (rule : Rule) (a : Action) → Contains g.rules rule → Contains (leaves rule.body) (Act a) → a.infers ≡ true → InfersHere rule.file a.span a.type_name

  -- a type of this name is inferred somewhere
  abbrev pub IsInferredType : List ℕ → Type 0
  IsInferredType name = (file : ℕ) × (s : Span) × InfersHere file s name

  -- a type is declared, or inferred somewhere
  abbrev pub IsKnownType : List ℕ → Type 0
  IsKnownType name = HasDeclaration name ⊎ IsInferredType name
