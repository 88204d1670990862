-- A choice stands in the text of its file, and so a conflict can be told.
use Rattle.std.proofs.Common.{◌≡◌, ℕ, List, [], ◌∷◌, Some, Contains, map, slice_get, sym, subst, ap, refl, ◌∙◌}
use Rattle.std.specs.List.{flat_map}
use Rattle.lw_base.specs.declared.token.Span.{Span}
use Rattle.lw_grammar.specs.declared.grammar.Grammar.{Grammar}
use Rattle.lw_grammar.specs.declared.rule.Rule.{Rule}
use Rattle.lw_grammar.specs.declared.rule.Element.{Element, out-Element, fold_out-Element}
use Rattle.lw_grammar.specs.declared.rule.Element.TheFolds.{map-Element}
use Rattle.lw_grammar.specs.declared.rule.Element.TheOpen as layer
use Rattle.lw_grammar.specs.declared.rule.Element.TheOpen.{Element-F}
use Rattle.lw_grammar.specs.declared.rule.Value0.{Value0, out-Value0, fold_out-Value0}
use Rattle.lw_grammar.specs.declared.rule.Value0.TheFolds.{map-Value0}
use Rattle.lw_grammar.specs.declared.rule.Value0.TheOpen as value
use Rattle.lw_grammar.specs.declared.rule.Value0.TheOpen.{Value0-F}
use Rattle.lw_grammar.specs.Kinds.{Kinds}
use Rattle.lw_look.specs.Sites.{PartSite, rule_of, Part, Body, Value, element_parts, value_parts, inner_parts, IsPartAt, ElementAt, ValueAt}
use Rattle.lw_look.specs.Sites as at
use Rattle.lw_look.proofs.Reaching.{among_parts, unmapped, one_item}
use Rattle.lw_gramread.specs.PlacesWithin.{element_spans, layer_spans, value_spans, value_layer_spans}
use Rattle.lw_load.specs.Standing.{Stands, AreIn}
use Rattle.lw_lang.proofs.Spans.{at_front, behind_front}
use Rattle.lw_lookahead.specs.Written.{IsSpanOf, IsWrittenAt}
use Rattle.lw_lookahead.specs.Written as written
use Rattle.lw_lookahead.specs.Conflicts.{CausesNoTables}
use Rattle.lw_lookahead.specs.declared.fault.LookFault.{LookFault}
use Rattle.lw_lookahead.specs.declared.fault.LookFault.TheVariants as look
use Rattle.lw_lang.specs.ToldLooks.{CanLookBeTold}
use Rattle.lw_lang.proofs.FirstPlaces.{in_body}
use Rattle.lw_lang.proofs.Lists.{at_place}

abbrev part_spans : Part → List Span
part_spans (Body e) = element_spans e
part_spans (Value v) = value_spans v

-- ---- what stands inside a part stands where the part does

spans_by : (e : Element) (f : Element-F Element) → out-Element e ≡ f → element_spans e ≡ layer_spans (map-Element Element (List Span) element_spans f)
spans_by e f is = fold_out-Element (List Span) layer_spans e ∙ ap (λ f. layer_spans (map-Element Element (List Span) element_spans f)) is

value_spans_by : (v : Value0) (f : Value0-F Value0) → out-Value0 v ≡ f → value_spans v ≡ value_layer_spans (map-Value0 Value0 (List Span) value_spans f)
value_spans_by v f is = fold_out-Value0 (List Span) value_layer_spans v ∙ ap (λ f. value_layer_spans (map-Value0 Value0 (List Span) value_spans f)) is

nothing_at : {y : Part} (i : ℕ) → slice_get [] i ≡ Some y → ⊥
nothing_at i is = cc

module _ (s : Span) where
  one_inside : (x : Part) (i : ℕ) (y : Part) (t : Span) → slice_get (x ∷ []) i ≡ Some y → Contains (part_spans y) s → Contains (t ∷ part_spans x) s
  one_inside x i y t at has = behind_front t (part_spans x) (subst (λ y. Contains (part_spans y) s) (sym (one_item i at)) has)

  elements_inside : (es : List Element) (i : ℕ) (y : Part) (t : Span) → slice_get (map Body es) i ≡ Some y → Contains (part_spans y) s →
      Contains (t ∷ flat_map (λ ss. ss) (map element_spans es)) s
  elements_inside es i y t at has =
      let (e, there, same) = unmapped Body es i y at in
      behind_front t (flat_map (λ ss. ss) (map element_spans es)) (among_parts element_spans es i e s there (subst (λ y. Contains (part_spans y) s) (sym same) has))

  in_layer : (f : Element-F Element) (i : ℕ) (y : Part) → slice_get (element_parts f) i ≡ Some y → Contains (part_spans y) s →
      Contains (layer_spans (map-Element Element (List Span) element_spans f)) s
  in_layer (layer.Assign p op v t) i y at has = one_inside (Value v) i y t at has
  in_layer (layer.Group es t) i y at has = elements_inside es i y t at has
  in_layer (layer.Choice es t) i y at has = elements_inside es i y t at has
  in_layer (layer.Maybe e t) i y at has = one_inside (Body e) i y t at has
  in_layer (layer.Many e t) i y at has = one_inside (Body e) i y t at has
  in_layer (layer.Some1 e t) i y at has = one_inside (Body e) i y t at has
  in_layer (layer.Keyword text t) i y at has = absurd (nothing_at i at)
  in_layer (layer.Call name t) i y at has = absurd (nothing_at i at)
  in_layer (layer.Act a) i y at has = absurd (nothing_at i at)

  in_value_layer : (f : Value0-F Value0) (i : ℕ) (y : Part) → slice_get (value_parts f) i ≡ Some y → Contains (part_spans y) s →
      Contains (value_layer_spans (map-Value0 Value0 (List Span) value_spans f)) s
  in_value_layer (value.Choice vs t) i y at has =
      let (v, there, same) = unmapped Value vs i y at in
      behind_front t (flat_map (λ ss. ss) (map value_spans vs)) (among_parts value_spans vs i v s there (subst (λ y. Contains (part_spans y) s) (sym same) has))
  in_value_layer (value.Keyword text t) i y at has = absurd (nothing_at i at)
  in_value_layer (value.Call name t) i y at has = absurd (nothing_at i at)
  in_value_layer (value.Cross wanted name t) i y at has = absurd (nothing_at i at)

  in_part : (x : Part) (i : ℕ) (y : Part) → slice_get (inner_parts x) i ≡ Some y → Contains (part_spans y) s → Contains (part_spans x) s
  in_part (Body e) i y at has = subst (λ ss. Contains ss s) (sym (spans_by e (out-Element e) refl)) (in_layer (out-Element e) i y at has)
  in_part (Value v) i y at has = subst (λ ss. Contains ss s) (sym (value_spans_by v (out-Value0 v) refl)) (in_value_layer (out-Value0 v) i y at has)

  module _ (g : Grammar) where
    in_rule : {site : PartSite} {x : Part} → IsPartAt g site x → Contains (part_spans x) s →
        (rule : Rule) × (slice_get g.rules (rule_of site) ≡ Some rule) × Contains (element_spans rule.body) s
    in_rule (at.whole {rule} there) has = (rule, there, has)
    in_rule (at.part {x} {y} {i} stands inside) has = in_rule stands (in_part x i y inside has)

    -- the place of a choice is one of its rule
    element_in_rule : {site : PartSite} {f : Element-F Element} → ElementAt g site f → Contains (layer_spans (map-Element Element (List Span) element_spans f)) s →
        (rule : Rule) × (slice_get g.rules (rule_of site) ≡ Some rule) × Contains (element_spans rule.body) s
    element_in_rule (at.element_at {e} stands) has = in_rule stands (subst (λ ss. Contains ss s) (sym (spans_by e (out-Element e) refl)) has)

    value_in_rule : {site : PartSite} {v : Value0} {f : Value0-F Value0} → ValueAt g site v f →
        Contains (value_layer_spans (map-Value0 Value0 (List Span) value_spans f)) s →
        (rule : Rule) × (slice_get g.rules (rule_of site) ≡ Some rule) × Contains (element_spans rule.body) s
    value_in_rule (at.value_at {v} stands) has = in_rule stands (subst (λ ss. Contains ss s) (sym (value_spans_by v (out-Value0 v) refl)) has)

    choice_in_rule : {site : PartSite} → IsSpanOf g site s → (rule : Rule) × (slice_get g.rules (rule_of site) ≡ Some rule) × Contains (element_spans rule.body) s
    choice_in_rule (written.alternatives es stands) = element_in_rule stands (at_front s _)
    choice_in_rule (written.values v vs stands) = value_in_rule stands (at_front s _)
    choice_in_rule (written.optional e stands) = element_in_rule stands (at_front s _)
    choice_in_rule (written.any e stands) = element_in_rule stands (at_front s _)
    choice_in_rule (written.some e stands) = element_in_rule stands (at_front s _)

module _ (g : Grammar) (texts : List (List ℕ)) (stands : Stands texts g) where
  choice_placed : (site : PartSite) (file : ℕ) (span : Span) → IsWrittenAt g site file span → AreIn texts file (span ∷ [])
  choice_placed site file span is =
      let (rule, there, has) = choice_in_rule span g is.spans in
      let same : rule ≡ is.rule = one_rule rule is.rule there is.at in
      subst (λ file. AreIn texts file (span ∷ [])) (ap (λ (r : Rule). r.file) same ∙ is.in_file) (in_body g texts stands rule [] span (at_place g.rules (rule_of site) there) has)
    where
      one_rule : (r q : Rule) → slice_get g.rules (rule_of site) ≡ Some r → slice_get g.rules (rule_of site) ≡ Some q → r ≡ q
      one_rule r q there other = cc

  pub look_can_be_told : (kinds : Kinds) (k : ℕ) (fault : LookFault) → CausesNoTables g kinds k fault → CanLookBeTold g texts fault
  look_can_be_told kinds k (look.Conflict conflict) (few, is) = choice_placed is.site conflict.file conflict.span is.place
  look_can_be_told kinds k look.TooMany cause = tt
  look_can_be_told kinds k look.NoMemory cause = tt
