-- The size of each form of a value, of a rule's element and of a terminal's element, by its parts.
use Rattle.std.proofs.Common.{◌≡◌, ℕ, ◌+◌, List, sum_by, ap, ◌∙◌}
use Rattle.std.proofs.lemmas.List.Sums.{sum-map}
use Rattle.lw_base.specs.declared.token.Span.{Span}
use Rattle.lw_grammar.specs.declared.rule.Element.{Element}
use Rattle.lw_grammar.specs.declared.rule.Element.TheVariants as element
use Rattle.lw_grammar.specs.declared.rule.Value0.{Value0}
use Rattle.lw_grammar.specs.declared.rule.Value0.TheVariants as value
use Rattle.lw_grammar.specs.declared.rule.Action.{Action}
use Rattle.lw_grammar.specs.declared.terminal.TermElement.{TermElement, out-TermElement, fold_out-TermElement}
use Rattle.lw_grammar.specs.declared.terminal.TermElement.TheFolds.{map-TermElement}
use Rattle.lw_grammar.specs.declared.terminal.TermElement.TheOpen.{TermElement-F}
use Rattle.lw_grammar.specs.declared.terminal.TermElement.TheVariants as term
use Rattle.lw_grammar.specs.Size.{value_size, element_size, term_size, term_layer_size}
use Rattle.lw_grammar.proofs.LeafLemmas.{size_by, size_of_value, size-Keyword, size-Call, size-Assign, size-value_Call, size-value_Cross, size-Pattern}

-- ---- values

pub size-value_Keyword : (text : List ℕ) (s : Span) → value_size (value.Keyword text s) ≡ 1
size-value_Keyword text s = size_of_value _ _ (value.outs-Keyword text s)

pub size-value_Choice : (values : List Value0) (s : Span) → value_size (value.Choice values s) ≡ 1 + sum_by value_size values
size-value_Choice values s = size_of_value _ _ (value.outs-Choice values s) ∙ ap (λ n. 1 + n) (sum-map value_size values)

pub ruleset value_sizes = (size-value_Keyword, size-value_Call, size-value_Cross, size-value_Choice)

-- ---- elements of rules

pub size-Act : (a : Action) → element_size (element.Act a) ≡ 2
size-Act a = size_by _ _ (element.outs-Act a)

pub size-Group : (parts : List Element) (s : Span) → element_size (element.Group parts s) ≡ 1 + sum_by element_size parts
size-Group parts s = size_by _ _ (element.outs-Group parts s) ∙ ap (λ n. 1 + n) (sum-map element_size parts)

pub size-Choice : (parts : List Element) (s : Span) → element_size (element.Choice parts s) ≡ 1 + sum_by element_size parts
size-Choice parts s = size_by _ _ (element.outs-Choice parts s) ∙ ap (λ n. 1 + n) (sum-map element_size parts)

pub size-Maybe : (part : Element) (s : Span) → element_size (element.Maybe part s) ≡ 1 + element_size part
size-Maybe part s = size_by _ _ (element.outs-Maybe part s)

pub size-Many : (part : Element) (s : Span) → element_size (element.Many part s) ≡ 1 + element_size part
size-Many part s = size_by _ _ (element.outs-Many part s)

pub size-Some1 : (part : Element) (s : Span) → element_size (element.Some1 part s) ≡ 1 + element_size part
size-Some1 part s = size_by _ _ (element.outs-Some1 part s)

pub ruleset element_sizes = (size-Keyword, size-Call, size-Assign, size-Act, size-Group, size-Choice, size-Maybe, size-Many, size-Some1)

-- ---- elements of terminals

size_of_term : (t : TermElement) (f : TermElement-F TermElement) → out-TermElement t ≡ f → term_size t ≡ term_layer_size (map-TermElement TermElement ℕ term_size f)
size_of_term t f is = fold_out-TermElement ℕ term_layer_size t ∙ ap (λ f. term_layer_size (map-TermElement TermElement ℕ term_size f)) is

pub size-term_Literal : (text : List ℕ) (s : Span) → term_size (term.Literal text s) ≡ 1
size-term_Literal text s = size_of_term _ _ (term.outs-Literal text s)

pub size-term_Range : (first last : List ℕ) (s : Span) → term_size (term.Range first last s) ≡ 1
size-term_Range first last s = size_of_term _ _ (term.outs-Range first last s)

pub size-term_Call : (name : List ℕ) (s : Span) → term_size (term.Call name s) ≡ 1
size-term_Call name s = size_of_term _ _ (term.outs-Call name s)

pub size-term_Group : (parts : List TermElement) → term_size (term.Group parts) ≡ 1 + sum_by term_size parts
size-term_Group parts = size_of_term _ _ (term.outs-Group parts) ∙ ap (λ n. 1 + n) (sum-map term_size parts)

pub size-term_Choice : (parts : List TermElement) → term_size (term.Choice parts) ≡ 1 + sum_by term_size parts
size-term_Choice parts = size_of_term _ _ (term.outs-Choice parts) ∙ ap (λ n. 1 + n) (sum-map term_size parts)

pub size-term_Maybe : (part : TermElement) → term_size (term.Maybe part) ≡ 1 + term_size part
size-term_Maybe part = size_of_term _ _ (term.outs-Maybe part)

pub size-term_Many : (part : TermElement) → term_size (term.Many part) ≡ 1 + term_size part
size-term_Many part = size_of_term _ _ (term.outs-Many part)

pub size-term_Some1 : (part : TermElement) → term_size (term.Some1 part) ≡ 1 + term_size part
size-term_Some1 part = size_of_term _ _ (term.outs-Some1 part)

pub ruleset term_sizes =
    (size-term_Literal, size-term_Range, size-Pattern, size-term_Call, size-term_Group, size-term_Choice, size-term_Maybe, size-term_Many, size-term_Some1)
