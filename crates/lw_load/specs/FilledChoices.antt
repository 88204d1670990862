-- Grammars of which each choice in a rule has a part, in its elements and in the values that it assigns. Where a choice has none, there is no
-- alternative that a text could be read by.
-- Held against the Langium documentation, "Grammar language": alternatives.
use Rattle.std.specs.Prelude.{ℕ, List, [], ◌∷◌, Contains, length}
use Rattle.std.specs.List.{flat_map}
use Rattle.lw_grammar.specs.declared.grammar.Grammar.{Grammar}
use Rattle.lw_grammar.specs.declared.rule.Element.{Element, fold-Element}
use Rattle.lw_grammar.specs.declared.rule.Element.TheOpen as layer
use Rattle.lw_grammar.specs.declared.rule.Element.TheOpen.{Element-F}
use Rattle.lw_grammar.specs.declared.rule.Rule.{Rule}
use Rattle.lw_grammar.specs.declared.rule.Value0.{Value0, fold-Value0}
use Rattle.lw_grammar.specs.declared.rule.Value0.TheOpen as value
use Rattle.lw_grammar.specs.declared.rule.Value0.TheOpen.{Value0-F}

-- how many parts each choice in a value has, the choices in the order of the text
abbrev pub value_layer_choice_sizes : Value0-F (List ℕ) → List ℕ
value_layer_choice_sizes (value.Choice parts s) = length parts ∷ flat_map (λ sizes. sizes) parts
value_layer_choice_sizes _ = []

abbrev pub value_choice_sizes : Value0 → List ℕ
value_choice_sizes = fold-Value0 (List ℕ) value_layer_choice_sizes

-- the same of an element, with the choices in the values that it assigns
abbrev pub layer_choice_sizes : Element-F (List ℕ) → List ℕ
layer_choice_sizes (layer.Assign p op v s) = value_choice_sizes v
layer_choice_sizes (layer.Group parts s) = flat_map (λ sizes. sizes) parts
layer_choice_sizes (layer.Choice parts s) = length parts ∷ flat_map (λ sizes. sizes) parts
layer_choice_sizes (layer.Maybe part s) = part
layer_choice_sizes (layer.Many part s) = part
layer_choice_sizes (layer.Some1 part s) = part
layer_choice_sizes _ = []

abbrev pub element_choice_sizes : Element → List ℕ
element_choice_sizes = fold-Element (List ℕ) layer_choice_sizes

-- no choice in a rule is without a part
abbrev pub HasFilledChoices : Grammar → Type 0
HasFilledChoices g = (rule : Rule) → Contains g.rules rule → ¬ Contains (element_choice_sizes rule.body) 0
