-- A choice in a rule is written with two alternatives or more, so none is empty.
use Rattle.std.proofs.Common.{ℕ, ◌≡◌, List, [], ◌∷◌, map, Contains, sym, ap, ◌∙◌, subst, arith}
use Rattle.std.specs.List.{AllByRecursion}
use Rattle.lw_base.specs.declared.token.Span.{Span}
use Rattle.lw_grammar.specs.declared.rule.Element.{Element, out-Element, fold_out-Element}
use Rattle.lw_grammar.specs.declared.rule.Element.TheFolds.{map-Element}
use Rattle.lw_grammar.specs.declared.rule.Element.TheOpen.{Element-F}
use Rattle.lw_grammar.specs.declared.rule.Element.TheVariants as element
use Rattle.lw_grammar.specs.declared.rule.Rule.{Rule}
use Rattle.lw_grammar.specs.declared.rule.Value0.{Value0, out-Value0, fold_out-Value0}
use Rattle.lw_grammar.specs.declared.rule.Value0.TheFolds.{map-Value0}
use Rattle.lw_grammar.specs.declared.rule.Value0.TheOpen.{Value0-F}
use Rattle.lw_grammar.specs.declared.rule.Value0.TheVariants as value
use Rattle.lw_gramread.specs.declared.lexeme.Lexeme.{Lexeme}
use Rattle.lw_gramread.specs.ParserRules as rules
use Rattle.lw_gramread.specs.ParserRules.{SpellsValue, SpellsValues, SpellsMoreValues, SpellsMark, SpellsPart, SpellsElement, SpellsMoreElements, SpellsRow, SpellsMoreRows, SpellsChoice, SpellsRule}
use Rattle.lw_gramread.specs.Spans.{across, covering, span_of, span_of_value, group_of, choice_of, value_among}
use Rattle.lw_load.specs.FilledChoices.{value_choice_sizes, value_layer_choice_sizes, element_choice_sizes, layer_choice_sizes}
use Rattle.lw_load.proofs.Filled.{AreFilled, each_filled, none_empty}

-- ---- values

abbrev IsValueFilled : Value0 → Type 0
IsValueFilled v = AreFilled (value_choice_sizes v)

abbrev EachValueFilled : List Value0 → Type 0
EachValueFilled vs = AllByRecursion IsValueFilled vs

-- by its variant
value_by : (v : Value0) (f : Value0-F Value0) → out-Value0 v ≡ f →
    AreFilled (value_layer_choice_sizes (map-Value0 Value0 (List ℕ) value_choice_sizes f)) → IsValueFilled v
value_by v f is h =
    subst AreFilled
    (sym (fold_out-Value0 (List ℕ) value_layer_choice_sizes v ∙ ap (λ f. value_layer_choice_sizes (map-Value0 Value0 (List ℕ) value_choice_sizes f)) is))
    h

among_filled : (v : Value0) (vs : List Value0) → EachValueFilled (v ∷ vs) → IsValueFilled (value_among (v ∷ vs))
unfolding value_among
among_filled v [] h = h.0
among_filled v (w ∷ vs) h =
    value_by _ _ (value.outs-Choice (v ∷ w ∷ vs) (covering (map span_of_value (v ∷ w ∷ vs)))) (omega arith, each_filled value_choice_sizes (v ∷ w ∷ vs) h)

mutual
  value_filled : {ts rest : List Lexeme} {v : Value0} {place : Span} → SpellsValue ts rest v place → IsValueFilled v
  value_filled (rules.string {v} {s}) = value_by _ _ (value.outs-Keyword v s) tt
  value_filled (rules.call {n} {s}) = value_by _ _ (value.outs-Call n s) tt
  value_filled (rules.cross {n} {o} {c} {r} rule) = value_by _ _ (value.outs-Cross n r (across o c)) tt
  value_filled (rules.inside vs) = values_filled vs

  values_filled : {ts rest : List Lexeme} {vs : List Value0} → SpellsValues ts rest vs → IsValueFilled (value_among vs)
  values_filled (rules.values {v} {vs} one others) = among_filled v vs (value_filled one, more_values_filled others)

  more_values_filled : {ts rest : List Lexeme} {vs : List Value0} → SpellsMoreValues ts rest vs → EachValueFilled vs
  more_values_filled rules.no_value = tt
  more_values_filled (rules.value_and one others) = (value_filled one, more_values_filled others)

-- ---- elements

abbrev IsFilled : Element → Type 0
IsFilled e = AreFilled (element_choice_sizes e)

abbrev EachFilled : List Element → Type 0
EachFilled es = AllByRecursion IsFilled es

-- by its variant
element_by : (e : Element) (f : Element-F Element) → out-Element e ≡ f →
    AreFilled (layer_choice_sizes (map-Element Element (List ℕ) element_choice_sizes f)) → IsFilled e
element_by e f is h =
    subst AreFilled
    (sym (fold_out-Element (List ℕ) layer_choice_sizes e ∙ ap (λ f. layer_choice_sizes (map-Element Element (List ℕ) element_choice_sizes f)) is))
    h

mark_filled : {ts rest : List Lexeme} {e m : Element} {place : Span} → SpellsMark ts rest e place m → IsFilled e → IsFilled m
mark_filled rules.bare h = h
mark_filled (rules.maybe {m} {e} {place}) h = element_by _ _ (element.outs-Maybe e (across place m)) h
mark_filled (rules.many {m} {e} {place}) h = element_by _ _ (element.outs-Many e (across place m)) h
mark_filled (rules.some {m} {e} {place}) h = element_by _ _ (element.outs-Some1 e (across place m)) h

row_of_filled : (e : Element) (es : List Element) → EachFilled (e ∷ es) → IsFilled (group_of (e ∷ es))
unfolding group_of
row_of_filled e [] h = h.0
row_of_filled e (f ∷ es) h =
    element_by _ _ (element.outs-Group (e ∷ f ∷ es) (covering (map span_of (e ∷ f ∷ es)))) (each_filled element_choice_sizes (e ∷ f ∷ es) h)

choice_of_filled : (e : Element) (es : List Element) → EachFilled (e ∷ es) → IsFilled (choice_of (e ∷ es))
unfolding choice_of
choice_of_filled e [] h = h.0
choice_of_filled e (f ∷ es) h =
    element_by _ _ (element.outs-Choice (e ∷ f ∷ es) (covering (map span_of (e ∷ f ∷ es)))) (omega arith, each_filled element_choice_sizes (e ∷ f ∷ es) h)

mutual
  part_filled : {ts rest : List Lexeme} {e : Element} {place : Span} → SpellsPart ts rest e place → IsFilled e
  part_filled (rules.keyword {v} {s}) = element_by _ _ (element.outs-Keyword v s) tt
  part_filled (rules.calls {n} {s}) = element_by _ _ (element.outs-Call n s) tt
  part_filled (rules.assigns {p} {s} {place} {op} {v} is reads) = element_by _ _ (element.outs-Assign p op v (across s place)) (value_filled reads)
  part_filled (rules.enclosed c) = choice_filled c

  element_filled : {ts rest : List Lexeme} {e : Element} → SpellsElement ts rest e → IsFilled e
  element_filled (rules.part p m) = mark_filled m (part_filled p)
  element_filled (rules.acts {a} spells) = element_by _ _ (element.outs-Act a) tt

  more_elements_filled : {ts rest : List Lexeme} {es : List Element} → SpellsMoreElements ts rest es → EachFilled es
  more_elements_filled rules.no_element = tt
  more_elements_filled (rules.element_and e m) = (element_filled e, more_elements_filled m)

  row_filled : {ts rest : List Lexeme} {e : Element} → SpellsRow ts rest e → IsFilled e
  row_filled (rules.row {e} {es} one others) = row_of_filled e es (element_filled one, more_elements_filled others)

  more_rows_filled : {ts rest : List Lexeme} {es : List Element} → SpellsMoreRows ts rest es → EachFilled es
  more_rows_filled rules.no_row = tt
  more_rows_filled (rules.row_and r m) = (row_filled r, more_rows_filled m)

  choice_filled : {ts rest : List Lexeme} {e : Element} → SpellsChoice ts rest e → IsFilled e
  choice_filled (rules.choice {e} {es} r m) = choice_of_filled e es (row_filled r, more_rows_filled m)

-- no choice in the rule is empty
abbrev pub RuleHasParts : Rule → Type 0
RuleHasParts rule = ¬ Contains (element_choice_sizes rule.body) 0

pub rule_filled : {ts rest : List Lexeme} {r : Rule} → SpellsRule ts rest r → RuleHasParts r
rule_filled (rules.rule {body} entry fragment result c) = none_empty (element_choice_sizes body) (choice_filled c)
