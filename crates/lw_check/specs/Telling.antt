-- What is told of each reference, node, export and value of a tree: by its answers, its own symbols and the index.
-- Held against the table of diagnostics of a document.
use Rattle.std.specs.Prelude.{ℕ, ◌≡◌, ◌<◌, ◌⊎◌, ◌↔◌, List, Some, AllPairs, Contains, length, slice_get}
use Rattle.std.specs.List.{AllZip}
use Rattle.lw_faults.specs.Finding.{AtSome, OfSome}
use Rattle.lw_grammar.specs.declared.grammar.Grammar.{Grammar}
use Rattle.lw_index.specs.declared.parts.Answer.{Answer}
use Rattle.lw_index.specs.declared.parts.Answer.TheVariants.{Missing}
use Rattle.lw_index.specs.Indexed.{Indexed}
use Rattle.lw_index.specs.Rivals.{IsLeastRival}
use Rattle.lw_reading.specs.Numbers.{IsNumberOfType}
use Rattle.lw_scoping.specs.Doubles.{HasDouble}
use Rattle.lw_scoping.specs.Symbols.{IsNamedNode, exports}
use Rattle.lw_link_rules.specs.Diagnostics.{IsDiagnosticShown}
use Rattle.lw_link_rules.specs.TreeDiagnostics.{Diagnostic, DiagnosticPrecedes, unresolved_at, duplicate_at, also_exported_at, out_of_range}
use Rattle.lw_text.specs.declared.shown.Shown.{Shown}
use Rattle.lw_tree.specs.Keyed.{values_of}
use Rattle.lw_tree.specs.Parts.{Parts}
use Rattle.lw_tree.specs.declared.node.Reference.{Reference}
use Rattle.lw_tree.specs.declared.node.Value.{Value}
use Rattle.lw_tree.specs.declared.node.Value.TheVariants.{Huge}

-- the value is a number that is out of range, and this tells it
abbrev pub TellsValue : Value → Diagnostic → Type 0
TellsValue (Huge s) e = e ≡ out_of_range s
TellsValue _ e = ⊥

module _ (g : Grammar) where
  -- this tells the reference as one that leads nowhere
  pub record TellsReference (r : Reference) (e : Diagnostic) : Type 0 where
    pub type : List ℕ
    pub numbered : IsNumberOfType g type r.want.0
    pub is : e ≡ unresolved_at r.span type r.name

  -- the answer is that nothing fits, and this tells the reference
  abbrev pub TellsAnswer : Answer → Reference → Diagnostic → Type 0
  TellsAnswer answer r e = (answer ≡ Missing) × TellsReference r e

  -- so by the answer at this place
  abbrev pub TellsAnswerAt : List Answer → ℕ → Reference → Diagnostic → Type 0
  TellsAnswerAt answers i r e = (answer : Answer) × (slice_get answers i ≡ Some answer) × TellsAnswer answer r e

  -- the node is a symbol beside an earlier one of its name and type, and this tells it
  pub record TellsDouble (tree : Parts) (n : ℕ) (e : Diagnostic) : Type 0 where
    pub number : ℕ
    pub name : List ℕ
    pub named : IsNamedNode tree n name number
    pub double : HasDouble tree n name number
    pub type : List ℕ
    pub numbered : IsNumberOfType g type number
    pub is : e ≡ duplicate_at named.span type name

  -- this tells one of the first so many nodes
  abbrev pub TellsDoubleBelow : Parts → ℕ → Diagnostic → Type 0
  TellsDoubleBelow tree count e = (n : ℕ) × (n < count) × TellsDouble tree n e

  -- the node of a document has a name that others export with its type, and this tells it by the least of their URIs
  pub record TellsRival (tree : Parts) (index : Indexed) (doc n : ℕ) (e : Diagnostic) : Type 0 where
    pub number : ℕ
    pub name : List ℕ
    pub named : IsNamedNode tree n name number
    pub other : List ℕ
    pub rival : IsLeastRival index doc name number other
    pub type : List ℕ
    pub numbered : IsNumberOfType g type number
    pub is : e ≡ also_exported_at named.span type name other

  module _ (tree : Parts) (answers : List Answer) (doc : ℕ) (index : Indexed) where
    abbrev pub TellsSomeAnswer : Diagnostic → Type 0
    TellsSomeAnswer = AtSome (TellsAnswerAt answers) tree.refs

    abbrev pub TellsSomeRival : Diagnostic → Type 0
    TellsSomeRival = OfSome (TellsRival tree index doc) (exports tree)

    -- this tells a reference, a node, an export or a value of the tree
    abbrev pub IsTold : Diagnostic → Type 0
    IsTold e = ((TellsSomeAnswer e ⊎ TellsDoubleBelow tree (length tree.nodes) e) ⊎ TellsSomeRival e) ⊎ OfSome TellsValue (values_of tree.values) e

    -- exactly these are told, in their order
    pub record AreTold (diagnostics : List Diagnostic) : Type 0 where
      pub exact : (e : Diagnostic) → Contains diagnostics e ↔ IsTold e
      pub ordered : AllPairs DiagnosticPrecedes diagnostics

    -- exactly these are told, and this list shows them in the text
    abbrev pub AreToldAndShown : List ℕ → List Shown → Type 0
    AreToldAndShown text list = (diagnostics : List Diagnostic) × AreTold diagnostics × AllZip (IsDiagnosticShown text) diagnostics list
