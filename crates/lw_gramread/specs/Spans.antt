-- Where the parts of a grammar stand that have more than one token, and parts that are one element. Rows and alternatives run from
-- the start of their first part to the end of their last, so parentheses around them are not in them.
use Rattle.std.specs.Prelude.{List, [], ◌∷◌, map}
use Rattle.lw_base.specs.declared.token.Span.{Span}
use Rattle.lw_grammar.specs.declared.rule.Element.{Element, out-Element}
use Rattle.lw_grammar.specs.declared.rule.Element.TheVariants as element
use Rattle.lw_grammar.specs.declared.rule.Element.TheOpen as layer
use Rattle.lw_grammar.specs.declared.rule.Element.TheOpen.{Element-F}
use Rattle.lw_grammar.specs.declared.rule.Value0.{Value0, out-Value0}
use Rattle.lw_grammar.specs.declared.rule.Value0.TheVariants as value
use Rattle.lw_grammar.specs.declared.rule.Value0.TheOpen as value_layer
use Rattle.lw_grammar.specs.declared.rule.Value0.TheOpen.{Value0-F}
use Rattle.lw_grammar.specs.declared.terminal.TermElement.{TermElement}
use Rattle.lw_grammar.specs.declared.terminal.TermElement.TheVariants as term

-- from the start of the first place to the end of the second
abbrev pub across : Span → Span → Span
across first last = record { start = first.start; end = last.end }

abbrev pub last_of : Span → List Span → Span
last_of s [] = s
last_of s (t ∷ ts) = last_of t ts

-- from the start of the first to the end of the last
abbrev pub covering : List Span → Span
covering [] = record { start = 0; end = 0 }
covering (s ∷ ss) = across s (last_of s ss)

abbrev pub span_of_layer : Element-F Element → Span
span_of_layer (layer.Keyword v s) = s
span_of_layer (layer.Call n s) = s
span_of_layer (layer.Assign n op v s) = s
span_of_layer (layer.Act a) = a.span
span_of_layer (layer.Group es s) = s
span_of_layer (layer.Choice es s) = s
span_of_layer (layer.Maybe e s) = s
span_of_layer (layer.Many e s) = s
span_of_layer (layer.Some1 e s) = s

unfoldable pub span_of : Element → Span
span_of e = span_of_layer (out-Element e)

abbrev pub span_of_value_layer : Value0-F Value0 → Span
span_of_value_layer (value_layer.Keyword v s) = s
span_of_value_layer (value_layer.Call n s) = s
span_of_value_layer (value_layer.Cross n r s) = s
span_of_value_layer (value_layer.Choice vs s) = s

unfoldable pub span_of_value : Value0 → Span
span_of_value v = span_of_value_layer (out-Value0 v)

-- a row of one part is the part itself, and so are alternatives that are one
unfoldable pub group_of : List Element → Element
group_of [] = element.Group [] (covering [])
group_of (e ∷ []) = e
group_of (e ∷ f ∷ es) = element.Group (e ∷ f ∷ es) (covering (map span_of (e ∷ f ∷ es)))

unfoldable pub choice_of : List Element → Element
choice_of [] = element.Choice [] (covering [])
choice_of (e ∷ []) = e
choice_of (e ∷ f ∷ es) = element.Choice (e ∷ f ∷ es) (covering (map span_of (e ∷ f ∷ es)))

unfoldable pub value_among : List Value0 → Value0
value_among [] = value.Choice [] (covering [])
value_among (v ∷ []) = v
value_among (v ∷ w ∷ vs) = value.Choice (v ∷ w ∷ vs) (covering (map span_of_value (v ∷ w ∷ vs)))

unfoldable pub term_group_of : List TermElement → TermElement
term_group_of [] = term.Group []
term_group_of (e ∷ []) = e
term_group_of (e ∷ f ∷ es) = term.Group (e ∷ f ∷ es)

unfoldable pub term_choice_of : List TermElement → TermElement
term_choice_of [] = term.Choice []
term_choice_of (e ∷ []) = e
term_choice_of (e ∷ f ∷ es) = term.Choice (e ∷ f ∷ es)
