-- The size of a grammar: how many imports, rules, elements, values, actions, terminals, terminal elements, interfaces,
-- attributes, unions and members it has, at every depth.
use Rattle.std.specs.Prelude.{ℕ, ◌+◌, length, sum, sum_by}
use Rattle.lw_grammar.specs.declared.grammar.Grammar.{Grammar}
use Rattle.lw_grammar.specs.declared.rule.Element.{Element, fold-Element}
use Rattle.lw_grammar.specs.declared.rule.Element.TheOpen as layer
use Rattle.lw_grammar.specs.declared.rule.Element.TheOpen.{Element-F}
use Rattle.lw_grammar.specs.declared.rule.Value0.{Value0, fold-Value0}
use Rattle.lw_grammar.specs.declared.rule.Value0.TheOpen as value
use Rattle.lw_grammar.specs.declared.rule.Value0.TheOpen.{Value0-F}
use Rattle.lw_grammar.specs.declared.terminal.TermElement.{TermElement, fold-TermElement}
use Rattle.lw_grammar.specs.declared.terminal.TermElement.TheOpen as term
use Rattle.lw_grammar.specs.declared.terminal.TermElement.TheOpen.{TermElement-F}

abbrev pub value_layer_size : Value0-F ℕ → ℕ
value_layer_size (value.Choice parts s) = 1 + sum parts
value_layer_size _ = 1

-- the values at every depth of one
abbrev pub value_size : Value0 → ℕ
value_size = fold-Value0 ℕ value_layer_size

abbrev pub layer_size : Element-F ℕ → ℕ
layer_size (layer.Keyword text s) = 1
layer_size (layer.Call name s) = 1
layer_size (layer.Assign p op v s) = 1 + value_size v
layer_size (layer.Act a) = 2
layer_size (layer.Group parts s) = 1 + sum parts
layer_size (layer.Choice parts s) = 1 + sum parts
layer_size (layer.Maybe part s) = 1 + part
layer_size (layer.Many part s) = 1 + part
layer_size (layer.Some1 part s) = 1 + part

-- the elements, values and actions at every depth of an element
abbrev pub element_size : Element → ℕ
element_size = fold-Element ℕ layer_size

abbrev pub term_layer_size : TermElement-F ℕ → ℕ
term_layer_size (term.Group parts) = 1 + sum parts
term_layer_size (term.Choice parts) = 1 + sum parts
term_layer_size (term.Maybe part) = 1 + part
term_layer_size (term.Many part) = 1 + part
term_layer_size (term.Some1 part) = 1 + part
term_layer_size _ = 1

-- the elements at every depth of a terminal's
abbrev pub term_size : TermElement → ℕ
term_size = fold-TermElement ℕ term_layer_size

abbrev pub size : Grammar → ℕ
size g =
    length g.imports
    + sum_by (λ rule. 1 + element_size rule.body) g.rules
    + sum_by (λ terminal. 1 + term_size terminal.body) g.terminals
    + sum_by (λ interface. 1 + sum_by (λ attribute. 1 + length attribute.members) interface.attributes) g.interfaces
    + sum_by (λ union. 1 + length union.members) g.unions
