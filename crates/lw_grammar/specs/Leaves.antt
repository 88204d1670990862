-- The leaves of a body: its keywords, calls, assignments and actions, in the order of the text.
-- Held against the Langium documentation, "Grammar language": the parts of a parser rule.
use Rattle.std.specs.Prelude.{ℕ, ◌≡◌, List, [], ◌∷◌, ◌++◌, Option, true, Contains}
use Rattle.std.specs.List.{flat_map}
use Rattle.lw_base.specs.declared.token.Span.{Span}
use Rattle.lw_grammar.specs.declared.grammar.Grammar.{Grammar}
use Rattle.lw_grammar.specs.declared.rule.Element.{Element, fold-Element}
use Rattle.lw_grammar.specs.declared.rule.Element.TheOpen as layer
use Rattle.lw_grammar.specs.declared.rule.Element.TheOpen.{Element-F}
use Rattle.lw_grammar.specs.declared.rule.Value0.{Value0, fold-Value0}
use Rattle.lw_grammar.specs.declared.rule.Value0.TheOpen as value
use Rattle.lw_grammar.specs.declared.rule.Value0.TheOpen.{Value0-F}
use Rattle.lw_grammar.specs.declared.rule.Op.{Op}
use Rattle.lw_grammar.specs.declared.rule.Action.{Action}
use Rattle.lw_grammar.specs.declared.rule.Rule.{Rule}
use Rattle.lw_grammar.specs.Named.{IsRule}

pub data Leaf : Type 0 where
  Keyword : List ℕ → Span → Leaf
  Call : List ℕ → Span → Leaf
  Assign : List ℕ → Op → Value0 → Span → Leaf
  Act : Action → Leaf

-- the leaves of one layer, whose parts are given by their leaves
abbrev pub layer_leaves : Element-F (List Leaf) → List Leaf
layer_leaves (layer.Keyword text s) = Keyword text s ∷ []
layer_leaves (layer.Call name s) = Call name s ∷ []
layer_leaves (layer.Assign p op v s) = Assign p op v s ∷ []
layer_leaves (layer.Act a) = Act a ∷ []
layer_leaves (layer.Group parts s) = flat_map (λ ls. ls) parts
layer_leaves (layer.Choice parts s) = flat_map (λ ls. ls) parts
layer_leaves (layer.Maybe part s) = part
layer_leaves (layer.Many part s) = part
layer_leaves (layer.Some1 part s) = part

abbrev pub leaves : Element → List Leaf
leaves = fold-Element (List Leaf) layer_leaves

-- The leaves of an assigned value: its keywords, calls and cross-references, in the order of the text.
pub data ValueLeaf : Type 0 where
  Literal : List ℕ → Span → ValueLeaf
  Calls : List ℕ → Span → ValueLeaf
  Cross : List ℕ → Option (List ℕ) → Span → ValueLeaf

abbrev pub layer_values : Value0-F (List ValueLeaf) → List ValueLeaf
layer_values (value.Keyword text s) = Literal text s ∷ []
layer_values (value.Call name s) = Calls name s ∷ []
layer_values (value.Cross type_name rule s) = Cross type_name rule s ∷ []
layer_values (value.Choice parts s) = flat_map (λ ls. ls) parts

abbrev pub value_leaves : Value0 → List ValueLeaf
value_leaves = fold-Value0 (List ValueLeaf) layer_values

-- the keywords that a body writes, in the order of the text, each as often as it stands there
abbrev pub literals_of : ValueLeaf → List (List ℕ)
literals_of (Literal text s) = text ∷ []
literals_of _ = []

abbrev pub keywords_of : Leaf → List (List ℕ)
keywords_of (Keyword text s) = text ∷ []
keywords_of (Assign p op v s) = flat_map literals_of (value_leaves v)
keywords_of _ = []

abbrev pub keywords_in : Element → List (List ℕ)
keywords_in e = flat_map keywords_of (leaves e)

-- Fragments put in: `Expands g entered ls all` where all are the leaves ls with each call of a fragment replaced by
-- the leaves of its body. A fragment that calls itself is looked into once: `entered` names those that are open.
module _ (g : Grammar) where
  abbrev pub IsFragmentCall : Leaf → ℕ → Rule → Type 0
  IsFragmentCall (Call name s) r rule = IsRule g name r rule × (rule.is_fragment ≡ true)
  IsFragmentCall _ r rule = ⊥

  pub data Expands : List ℕ → List Leaf → List Leaf → Type 0 where
    nothing : {entered : List ℕ} → Expands entered [] []
    kept : {entered : List ℕ} {leaf : Leaf} {ls all : List Leaf} → ((r : ℕ) (rule : Rule) → ¬ IsFragmentCall leaf r rule) →
        Expands entered ls all → Expands entered (leaf ∷ ls) (leaf ∷ all)
    put_in : {entered : List ℕ} {leaf : Leaf} {ls inside all : List Leaf} (r : ℕ) (rule : Rule) → IsFragmentCall leaf r rule → ¬ Contains entered r →
        Expands (r ∷ entered) (leaves rule.body) inside → Expands entered ls all → Expands entered (leaf ∷ ls) (inside ++ all)
    looped : {entered : List ℕ} {leaf : Leaf} {ls all : List Leaf} (r : ℕ) (rule : Rule) → IsFragmentCall leaf r rule → Contains entered r →
        Expands entered ls all → Expands entered (leaf ∷ ls) all

  -- what a rule's body reads at its own level, fragments put in
  abbrev pub HasLeaves : Rule → List Leaf → Type 0
  HasLeaves rule all = Expands [] (leaves rule.body) all
