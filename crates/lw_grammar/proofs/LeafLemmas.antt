-- The leaves and the size of each form of a body, and the leaves of each form of a value.
use Rattle.std.proofs.Common.{◌≡◌, ℕ, ◌+◌, List, [], ◌∷◌, Option, map, sum, ap, ◌∙◌}
use Rattle.std.specs.List.{flat_map}
use Rattle.lw_base.specs.declared.token.Span.{Span}
use Rattle.lw_grammar.specs.declared.rule.Element.{Element, out-Element, fold_out-Element}
use Rattle.lw_grammar.specs.declared.rule.Element.TheFolds.{map-Element}
use Rattle.lw_grammar.specs.declared.rule.Element.TheVariants as element
use Rattle.lw_grammar.specs.declared.rule.Element.TheOpen.{Element-F}
use Rattle.lw_grammar.specs.declared.rule.Value0.{Value0, out-Value0, fold_out-Value0}
use Rattle.lw_grammar.specs.declared.rule.Value0.TheFolds.{map-Value0}
use Rattle.lw_grammar.specs.declared.rule.Value0.TheVariants as value
use Rattle.lw_grammar.specs.declared.rule.Value0.TheOpen.{Value0-F}
use Rattle.lw_grammar.specs.declared.terminal.TermElement.{TermElement, fold_out-TermElement}
use Rattle.lw_grammar.specs.declared.terminal.TermElement.TheFolds.{map-TermElement}
use Rattle.lw_grammar.specs.declared.terminal.TermElement.TheVariants as term
use Rattle.lw_grammar.specs.declared.rule.Op.{Op}
use Rattle.lw_grammar.specs.declared.rule.Action.{Action}
use Rattle.lw_grammar.specs.Leaves.{Leaf, Keyword, Call, Assign, Act, leaves, layer_leaves, ValueLeaf, Literal, Calls, Cross, value_leaves, layer_values}
use Rattle.lw_grammar.specs.Size.{element_size, layer_size, value_size, value_layer_size, term_size, term_layer_size}

pub leaves_by : (e : Element) (f : Element-F Element) → out-Element e ≡ f → leaves e ≡ layer_leaves (map-Element Element (List Leaf) leaves f)
leaves_by e f is = fold_out-Element (List Leaf) layer_leaves e ∙ ap (λ f. layer_leaves (map-Element Element (List Leaf) leaves f)) is

pub leaves-Keyword : (text : List ℕ) (s : Span) → leaves (element.Keyword text s) ≡ Keyword text s ∷ []
leaves-Keyword text s = leaves_by _ _ (element.outs-Keyword text s)

pub leaves-Call : (name : List ℕ) (s : Span) → leaves (element.Call name s) ≡ Call name s ∷ []
leaves-Call name s = leaves_by _ _ (element.outs-Call name s)

pub leaves-Assign : (p : List ℕ) (op : Op) (v : Value0) (s : Span) → leaves (element.Assign p op v s) ≡ Assign p op v s ∷ []
leaves-Assign p op v s = leaves_by _ _ (element.outs-Assign p op v s)

pub leaves-Act : (a : Action) → leaves (element.Act a) ≡ Act a ∷ []
leaves-Act a = leaves_by _ _ (element.outs-Act a)

pub leaves-Group : (parts : List Element) (s : Span) → leaves (element.Group parts s) ≡ flat_map (λ ls. ls) (map leaves parts)
leaves-Group parts s = leaves_by _ _ (element.outs-Group parts s)

pub leaves-Choice : (parts : List Element) (s : Span) → leaves (element.Choice parts s) ≡ flat_map (λ ls. ls) (map leaves parts)
leaves-Choice parts s = leaves_by _ _ (element.outs-Choice parts s)

pub leaves-Maybe : (part : Element) (s : Span) → leaves (element.Maybe part s) ≡ leaves part
leaves-Maybe part s = leaves_by _ _ (element.outs-Maybe part s)

pub leaves-Many : (part : Element) (s : Span) → leaves (element.Many part s) ≡ leaves part
leaves-Many part s = leaves_by _ _ (element.outs-Many part s)

pub ruleset leaf_equations = (leaves-Keyword, leaves-Call, leaves-Assign, leaves-Act, leaves-Group, leaves-Choice, leaves-Maybe, leaves-Many)

pub values_by : (v : Value0) (f : Value0-F Value0) → out-Value0 v ≡ f → value_leaves v ≡ layer_values (map-Value0 Value0 (List ValueLeaf) value_leaves f)
values_by v f is = fold_out-Value0 (List ValueLeaf) layer_values v ∙ ap (λ f. layer_values (map-Value0 Value0 (List ValueLeaf) value_leaves f)) is

pub values-Keyword : (text : List ℕ) (s : Span) → value_leaves (value.Keyword text s) ≡ Literal text s ∷ []
values-Keyword text s = values_by _ _ (value.outs-Keyword text s)

pub values-Call : (name : List ℕ) (s : Span) → value_leaves (value.Call name s) ≡ Calls name s ∷ []
values-Call name s = values_by _ _ (value.outs-Call name s)

pub values-Cross : (wanted : List ℕ) (rule : Option (List ℕ)) (s : Span) → value_leaves (value.Cross wanted rule s) ≡ Cross wanted rule s ∷ []
values-Cross wanted rule s = values_by _ _ (value.outs-Cross wanted rule s)

pub ruleset value_equations = (values-Keyword, values-Call, values-Cross)

pub size_by : (e : Element) (f : Element-F Element) → out-Element e ≡ f → element_size e ≡ layer_size (map-Element Element ℕ element_size f)
size_by e f is = fold_out-Element ℕ layer_size e ∙ ap (λ f. layer_size (map-Element Element ℕ element_size f)) is

pub size-Keyword : (text : List ℕ) (s : Span) → element_size (element.Keyword text s) ≡ 1
size-Keyword text s = size_by _ _ (element.outs-Keyword text s)

pub size-Call : (name : List ℕ) (s : Span) → element_size (element.Call name s) ≡ 1
size-Call name s = size_by _ _ (element.outs-Call name s)

pub size-Assign : (p : List ℕ) (op : Op) (v : Value0) (s : Span) → element_size (element.Assign p op v s) ≡ 1 + value_size v
size-Assign p op v s = size_by _ _ (element.outs-Assign p op v s)

pub size-Group : (parts : List Element) (s : Span) → element_size (element.Group parts s) ≡ 1 + sum (map element_size parts)
size-Group parts s = size_by _ _ (element.outs-Group parts s)

pub size-Many : (part : Element) (s : Span) → element_size (element.Many part s) ≡ 1 + element_size part
size-Many part s = size_by _ _ (element.outs-Many part s)

pub size_of_value : (v : Value0) (f : Value0-F Value0) → out-Value0 v ≡ f → value_size v ≡ value_layer_size (map-Value0 Value0 ℕ value_size f)
size_of_value v f is = fold_out-Value0 ℕ value_layer_size v ∙ ap (λ f. value_layer_size (map-Value0 Value0 ℕ value_size f)) is

pub size-value_Call : (name : List ℕ) (s : Span) → value_size (value.Call name s) ≡ 1
size-value_Call name s = size_of_value _ _ (value.outs-Call name s)

pub size-value_Cross : (wanted : List ℕ) (rule : Option (List ℕ)) (s : Span) → value_size (value.Cross wanted rule s) ≡ 1
size-value_Cross wanted rule s = size_of_value _ _ (value.outs-Cross wanted rule s)

pub size-Pattern : (text : List ℕ) (s : Span) → term_size (term.Pattern text s) ≡ 1
size-Pattern text s =
    fold_out-TermElement ℕ term_layer_size (term.Pattern text s)
    ∙ ap (λ f. term_layer_size (map-TermElement TermElement ℕ term_size f)) (term.outs-Pattern text s)

pub ruleset size_equations = (size-Keyword, size-Call, size-Assign, size-Group, size-Many, size-value_Call, size-value_Cross, size-Pattern)
