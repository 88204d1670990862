-- What parser rules spell stands in the text, as their tokens do, and so do the tokens that are left.
use Rattle.std.proofs.Common.{ℕ, ◌≡◌, Bool, List, [], ◌∷◌, map, Option, refl, sym, ap, ◌∙◌, subst, arith}
use Rattle.std.specs.List.{flat_map}
use Rattle.lw_base.specs.declared.token.Span.{Span}
use Rattle.lw_grammar.specs.declared.rule.Rule.{Rule}
use Rattle.lw_grammar.specs.declared.rule.RuleResult.{RuleResult}
use Rattle.lw_grammar.specs.declared.rule.Action.{Action}
use Rattle.lw_grammar.specs.declared.rule.Element.{Element, out-Element, fold_out-Element}
use Rattle.lw_grammar.specs.declared.rule.Element.TheFolds.{map-Element}
use Rattle.lw_grammar.specs.declared.rule.Element.TheVariants as element
use Rattle.lw_grammar.specs.declared.rule.Element.TheOpen as layer
use Rattle.lw_grammar.specs.declared.rule.Element.TheOpen.{Element-F}
use Rattle.lw_grammar.specs.declared.rule.Value0.{Value0, out-Value0, fold_out-Value0}
use Rattle.lw_grammar.specs.declared.rule.Value0.TheFolds.{map-Value0}
use Rattle.lw_grammar.specs.declared.rule.Value0.TheVariants as value
use Rattle.lw_grammar.specs.declared.rule.Value0.TheOpen as value_layer
use Rattle.lw_grammar.specs.declared.rule.Value0.TheOpen.{Value0-F}
use Rattle.lw_gramread.specs.declared.lexeme.Lexeme.{Lexeme}
use Rattle.lw_gramread.specs.ParserRules as rules
use Rattle.lw_gramread.specs.ParserRules.{SpellsCrossRule, SpellsValue, SpellsValues, SpellsMoreValues, SpellsActionType, SpellsPut, SpellsAction, SpellsMark, SpellsPart, SpellsElement, SpellsMoreElements, SpellsRow, SpellsMoreRows, SpellsChoice, SpellsResult, SpellsRule}
use Rattle.lw_gramread.specs.Spans.{across, covering, span_of_layer, span_of, span_of_value_layer, span_of_value, group_of, choice_of, value_among}
use Rattle.lw_gramread.specs.PlacesWithin.{IsWithin, value_layer_spans, value_spans, layer_spans, element_spans, result_spans, rule_spans}
use Rattle.lw_gramread.proofs.Within.{and_behind, AreWithin, TokensWithin, EachWithin, all_of_mapped, within_both, covering_within, word_within}

module _ (text : List ℕ) where
  -- an empty place at the text's start
  start_within : IsWithin text (covering [])
  start_within = (omega arith, omega arith)

  -- ---- values

  -- the places of a value, by its variant
  of_value : (v : Value0) (f : Value0-F Value0) → out-Value0 v ≡ f → value_spans v ≡ value_layer_spans (map-Value0 Value0 (List Span) value_spans f)
  of_value v f is = fold_out-Value0 (List Span) value_layer_spans v ∙ ap (λ f. value_layer_spans (map-Value0 Value0 (List Span) value_spans f)) is

  value_by : (v : Value0) (f : Value0-F Value0) → out-Value0 v ≡ f → AreWithin text (value_layer_spans (map-Value0 Value0 (List Span) value_spans f)) → AreWithin text (value_spans v)
  value_by v f is h = subst (AreWithin text) (sym (of_value v f is)) h

  -- its own is the first of them
  value_itself : (v : Value0) → AreWithin text (value_spans v) → IsWithin text (span_of_value v)
  unfolding span_of_value
  value_itself v h = of_layer (out-Value0 v) (subst (AreWithin text) (of_value v (out-Value0 v) refl) h)
    where
      of_layer : (f : Value0-F Value0) → AreWithin text (value_layer_spans (map-Value0 Value0 (List Span) value_spans f)) → IsWithin text (span_of_value_layer f)
      of_layer (value_layer.Keyword v s) k = k.0
      of_layer (value_layer.Call n s) k = k.0
      of_layer (value_layer.Cross n r s) k = k.0
      of_layer (value_layer.Choice vs s) k = k.0

  values_themselves : (vs : List Value0) → EachWithin text value_spans vs → AreWithin text (map span_of_value vs)
  values_themselves [] h = tt
  values_themselves (v ∷ vs) h = (value_itself v h.0, values_themselves vs h.1)

  joined_values_within : (v : Value0) (vs : List Value0) → EachWithin text value_spans (v ∷ vs) →
      AreWithin text (covering (map span_of_value (v ∷ vs)) ∷ flat_map (λ ss. ss) (map value_spans (v ∷ vs)))
  joined_values_within v vs h = (covering_within text (span_of_value v) (map span_of_value vs) (values_themselves (v ∷ vs) h), all_of_mapped text value_spans (v ∷ vs) h)

  among_within : (vs : List Value0) → EachWithin text value_spans vs → AreWithin text (value_spans (value_among vs))
  unfolding value_among
  among_within [] h = value_by _ _ (value.outs-Choice [] (covering [])) (start_within, tt)
  among_within (v ∷ []) h = h.0
  among_within (v ∷ w ∷ vs) h = value_by _ _ (value.outs-Choice (v ∷ w ∷ vs) (covering (map span_of_value (v ∷ w ∷ vs)))) (joined_values_within v (w ∷ vs) h)

  cross_rule_within : {ts rest : List Lexeme} {r : Option (List ℕ)} → SpellsCrossRule ts rest r → TokensWithin text ts → TokensWithin text rest
  cross_rule_within rules.by_name h = h
  cross_rule_within rules.behind_colon h = h.1.1
  cross_rule_within rules.behind_bar h = h.1.1

  mutual
    value_within : {ts rest : List Lexeme} {v : Value0} {place : Span} → SpellsValue ts rest v place → TokensWithin text ts →
        AreWithin text (value_spans v) × IsWithin text place × TokensWithin text rest
    value_within (rules.string {v} {s}) h = (value_by _ _ (value.outs-Keyword v s) (h.0, tt), h.0, h.1)
    value_within (rules.call {n} {s}) h = (value_by _ _ (value.outs-Call n s) (h.0, tt), h.0, h.1)
    value_within (rules.cross {n} {o} {c} {r} rule) h =
        let q = cross_rule_within rule h.1.1 in
        let place : IsWithin text (across o c) = (h.0.0, q.0.1) in
        (value_by _ _ (value.outs-Cross n r (across o c)) (place, tt), place, q.1)
    value_within (rules.inside {vs} m) h = let q = values_within m h.1 in (among_within vs q.0, (h.0.0, q.1.0.1), q.1.1)

    values_within : {ts rest : List Lexeme} {vs : List Value0} → SpellsValues ts rest vs → TokensWithin text ts → EachWithin text value_spans vs × TokensWithin text rest
    values_within (rules.values v others) h =
        let r = value_within v h in
        let q = more_values_within others r.2 in
        ((r.0, q.0), q.1)

    more_values_within : {ts rest : List Lexeme} {vs : List Value0} → SpellsMoreValues ts rest vs → TokensWithin text ts → EachWithin text value_spans vs × TokensWithin text rest
    more_values_within rules.no_value h = (tt, h)
    more_values_within (rules.value_and v others) h =
        let r = value_within v h.1 in
        let q = more_values_within others r.2 in
        ((r.0, q.0), q.1)

  -- ---- elements

  -- the places of an element, by its variant
  of_element : (e : Element) (f : Element-F Element) → out-Element e ≡ f → element_spans e ≡ layer_spans (map-Element Element (List Span) element_spans f)
  of_element e f is = fold_out-Element (List Span) layer_spans e ∙ ap (λ f. layer_spans (map-Element Element (List Span) element_spans f)) is

  element_by : (e : Element) (f : Element-F Element) → out-Element e ≡ f → AreWithin text (layer_spans (map-Element Element (List Span) element_spans f)) → AreWithin text (element_spans e)
  element_by e f is h = subst (AreWithin text) (sym (of_element e f is)) h

  -- its own is the first of them
  element_itself : (e : Element) → AreWithin text (element_spans e) → IsWithin text (span_of e)
  unfolding span_of
  element_itself e h = of_layer (out-Element e) (subst (AreWithin text) (of_element e (out-Element e) refl) h)
    where
      of_layer : (f : Element-F Element) → AreWithin text (layer_spans (map-Element Element (List Span) element_spans f)) → IsWithin text (span_of_layer f)
      of_layer (layer.Keyword v s) k = k.0
      of_layer (layer.Call n s) k = k.0
      of_layer (layer.Assign n op v s) k = k.0
      of_layer (layer.Act a) k = k.0
      of_layer (layer.Group es s) k = k.0
      of_layer (layer.Choice es s) k = k.0
      of_layer (layer.Maybe e s) k = k.0
      of_layer (layer.Many e s) k = k.0
      of_layer (layer.Some1 e s) k = k.0

  elements_themselves : (es : List Element) → EachWithin text element_spans es → AreWithin text (map span_of es)
  elements_themselves [] h = tt
  elements_themselves (e ∷ es) h = (element_itself e h.0, elements_themselves es h.1)

  joined_within : (e : Element) (es : List Element) → EachWithin text element_spans (e ∷ es) →
      AreWithin text (covering (map span_of (e ∷ es)) ∷ flat_map (λ ss. ss) (map element_spans (e ∷ es)))
  joined_within e es h = (covering_within text (span_of e) (map span_of es) (elements_themselves (e ∷ es) h), all_of_mapped text element_spans (e ∷ es) h)

  row_of_within : (es : List Element) → EachWithin text element_spans es → AreWithin text (element_spans (group_of es))
  unfolding group_of
  row_of_within [] h = element_by _ _ (element.outs-Group [] (covering [])) (start_within, tt)
  row_of_within (e ∷ []) h = h.0
  row_of_within (e ∷ f ∷ es) h = element_by _ _ (element.outs-Group (e ∷ f ∷ es) (covering (map span_of (e ∷ f ∷ es)))) (joined_within e (f ∷ es) h)

  choice_of_within : (es : List Element) → EachWithin text element_spans es → AreWithin text (element_spans (choice_of es))
  unfolding choice_of
  choice_of_within [] h = element_by _ _ (element.outs-Choice [] (covering [])) (start_within, tt)
  choice_of_within (e ∷ []) h = h.0
  choice_of_within (e ∷ f ∷ es) h = element_by _ _ (element.outs-Choice (e ∷ f ∷ es) (covering (map span_of (e ∷ f ∷ es)))) (joined_within e (f ∷ es) h)

  action_type_within : {ts rest : List Lexeme} {infers : Bool} {n : List ℕ} → SpellsActionType ts rest infers n → TokensWithin text ts → TokensWithin text rest
  action_type_within (rules.type_of m) h = (word_within text m h).1

  put_within : {ts rest : List Lexeme} {p : Option (List ℕ × Bool)} → SpellsPut ts rest p → TokensWithin text ts → TokensWithin text rest
  put_within rules.no_put h = h
  put_within rules.put_one h = h.1.1.1.1
  put_within rules.put_list h = h.1.1.1.1

  action_within : {ts rest : List Lexeme} {a : Action} → SpellsAction ts rest a → TokensWithin text ts → IsWithin text a.span × TokensWithin text rest
  action_within (rules.action t p) h = let r = put_within p (action_type_within t h.1) in ((h.0.0, r.0.1), r.1)

  mark_within : {ts rest : List Lexeme} {e m : Element} {place : Span} → SpellsMark ts rest e place m → AreWithin text (element_spans e) → IsWithin text place →
      TokensWithin text ts → AreWithin text (element_spans m) × TokensWithin text rest
  mark_within rules.bare k p h = (k, h)
  mark_within (rules.maybe {m} {e} {place}) k p h = (element_by _ _ (element.outs-Maybe e (across place m)) ((p.0, h.0.1), k), h.1)
  mark_within (rules.many {m} {e} {place}) k p h = (element_by _ _ (element.outs-Many e (across place m)) ((p.0, h.0.1), k), h.1)
  mark_within (rules.some {m} {e} {place}) k p h = (element_by _ _ (element.outs-Some1 e (across place m)) ((p.0, h.0.1), k), h.1)

  mutual
    part_within : {ts rest : List Lexeme} {e : Element} {place : Span} → SpellsPart ts rest e place → TokensWithin text ts →
        AreWithin text (element_spans e) × IsWithin text place × TokensWithin text rest
    part_within (rules.keyword {v} {s}) h = (element_by _ _ (element.outs-Keyword v s) (h.0, tt), h.0, h.1)
    part_within (rules.calls {n} {s}) h = (element_by _ _ (element.outs-Call n s) (h.0, tt), h.0, h.1)
    part_within (rules.assigns {p} {s} {place} {op} {v} o value) h =
        let r = value_within value h.1.1 in
        let whole : IsWithin text (across s place) = (h.0.0, r.1.1) in
        (element_by _ _ (element.outs-Assign p op v (across s place)) (whole, r.0), whole, r.2)
    part_within (rules.enclosed c) h = let r = choice_within c h.1 in (r.0, (h.0.0, r.1.0.1), r.1.1)

    element_within : {ts rest : List Lexeme} {e : Element} → SpellsElement ts rest e → TokensWithin text ts → AreWithin text (element_spans e) × TokensWithin text rest
    element_within (rules.part p m) h = let r = part_within p h in mark_within m r.0 r.1 r.2
    element_within (rules.acts {a} x) h = let r = action_within x h in (element_by _ _ (element.outs-Act a) (r.0, tt), r.1)

    more_elements_within : {ts rest : List Lexeme} {es : List Element} → SpellsMoreElements ts rest es → TokensWithin text ts → EachWithin text element_spans es × TokensWithin text rest
    more_elements_within rules.no_element h = (tt, h)
    more_elements_within (rules.element_and e others) h = and_behind (element_within e h) (more_elements_within others)

    row_within : {ts rest : List Lexeme} {e : Element} → SpellsRow ts rest e → TokensWithin text ts → AreWithin text (element_spans e) × TokensWithin text rest
    row_within (rules.row {e} {es} x others) h =
        let r = and_behind (element_within x h) (more_elements_within others) in (row_of_within (e ∷ es) r.0, r.1)

    more_rows_within : {ts rest : List Lexeme} {es : List Element} → SpellsMoreRows ts rest es → TokensWithin text ts → EachWithin text element_spans es × TokensWithin text rest
    more_rows_within rules.no_row h = (tt, h)
    more_rows_within (rules.row_and x others) h = and_behind (row_within x h.1) (more_rows_within others)

    choice_within : {ts rest : List Lexeme} {e : Element} → SpellsChoice ts rest e → TokensWithin text ts → AreWithin text (element_spans e) × TokensWithin text rest
    choice_within (rules.choice {e} {es} x others) h =
        let r = and_behind (row_within x h) (more_rows_within others) in (choice_of_within (e ∷ es) r.0, r.1)

  -- ---- rules

  result_within : {ts rest : List Lexeme} {x : RuleResult} → SpellsResult ts rest x → TokensWithin text ts → AreWithin text (result_spans x) × TokensWithin text rest
  result_within rules.own h = (tt, h)
  result_within rules.returns h = ((h.1.0, tt), h.1.1)
  result_within (rules.gives e) h = (tt, h.1.1)
  result_within rules.infers h = ((h.1.0, tt), h.1.1)

  pub rule_within : {ts rest : List Lexeme} {r : Rule} → SpellsRule ts rest r → TokensWithin text ts → AreWithin text (rule_spans r) × TokensWithin text rest
  rule_within (rules.rule {result} {body} entry fragment typed rows) h =
      let name = word_within text fragment (word_within text entry h) in
      let r = result_within typed name.1 in
      let q = choice_within rows r.1.1 in
      ((name.0, within_both text (result_spans result) (element_spans body) r.0 q.0), q.1.1)
