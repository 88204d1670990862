-- The choices of each form of an element, and of a value.
use Rattle.std.proofs.Common.{◌≡◌, ◌⊎◌, inl, inr, List, [], ◌∷◌, Option, map, ap, ◌∙◌}
use Rattle.lw_base.specs.declared.token.Span.{Span}
use Rattle.lw_grammar.specs.declared.rule.Element.{Element, out-Element, fold_out-Element}
use Rattle.lw_grammar.specs.declared.rule.Element.TheFolds.{map-Element}
use Rattle.lw_grammar.specs.declared.rule.Element.TheVariants as element
use Rattle.lw_grammar.specs.declared.rule.Element.TheOpen.{Element-F}
use Rattle.lw_grammar.specs.declared.rule.Value0.{Value0, out-Value0, fold_out-Value0}
use Rattle.lw_grammar.specs.declared.rule.Value0.TheFolds.{map-Value0}
use Rattle.lw_grammar.specs.declared.rule.Value0.TheVariants as value
use Rattle.lw_grammar.specs.declared.rule.Value0.TheOpen.{Value0-F}
use Rattle.lw_grammar.specs.declared.rule.Op.{Op}
use Rattle.lw_grammar.specs.declared.rule.Action.{Action}
use Rattle.std.specs.Prelude.{ℕ}
use Rattle.lw_look.specs.Sites.{PartSite, ◌▸◌}
use Rattle.lw_look.specs.Choices.{element_choices, layer_choice_sites, value_choices, value_layer_choice_sites, inside}

module _ (s : PartSite) where
  by_layer : (e : Element) (f : Element-F Element) → out-Element e ≡ f →
      element_choices e s ≡ layer_choice_sites (map-Element Element (PartSite → List PartSite) element_choices f) s
  by_layer e f is =
      ap (λ choices. choices s)
      (fold_out-Element (PartSite → List PartSite) layer_choice_sites e ∙ ap (λ f. layer_choice_sites (map-Element Element (PartSite → List PartSite) element_choices f)) is)

  pub choices-Keyword : (text : List ℕ) (span : Span) → element_choices (element.Keyword text span) s ≡ []
  choices-Keyword text span = by_layer _ _ (element.outs-Keyword text span)

  pub choices-Call : (name : List ℕ) (span : Span) → element_choices (element.Call name span) s ≡ []
  choices-Call name span = by_layer _ _ (element.outs-Call name span)

  pub choices-Act : (act : Action) → element_choices (element.Act act) s ≡ []
  choices-Act act = by_layer _ _ (element.outs-Act act)

  pub choices-Assign : (p : List ℕ) (op : Op) (v : Value0) (span : Span) → element_choices (element.Assign p op v span) s ≡ value_choices v (s ▸ 0)
  choices-Assign p op v span = by_layer _ _ (element.outs-Assign p op v span)

  pub choices-Group : (parts : List Element) (span : Span) → element_choices (element.Group parts span) s ≡ inside s 0 (map element_choices parts)
  choices-Group parts span = by_layer _ _ (element.outs-Group parts span)

  pub choices-Choice : (parts : List Element) (span : Span) → element_choices (element.Choice parts span) s ≡ s ∷ inside s 0 (map element_choices parts)
  choices-Choice parts span = by_layer _ _ (element.outs-Choice parts span)

  pub choices-Maybe : (part : Element) (span : Span) → element_choices (element.Maybe part span) s ≡ s ∷ element_choices part (s ▸ 0)
  choices-Maybe part span = by_layer _ _ (element.outs-Maybe part span)

  pub choices-Many : (part : Element) (span : Span) → element_choices (element.Many part span) s ≡ s ∷ element_choices part (s ▸ 0)
  choices-Many part span = by_layer _ _ (element.outs-Many part span)

  pub choices-Some1 : (part : Element) (span : Span) → element_choices (element.Some1 part span) s ≡ s ∷ element_choices part (s ▸ 0)
  choices-Some1 part span = by_layer _ _ (element.outs-Some1 part span)

  pub choices_repeated : (e part : Element) (span : Span) → (e ≡ element.Many part span) ⊎ (e ≡ element.Some1 part span) →
      element_choices e s ≡ s ∷ element_choices part (s ▸ 0)
  choices_repeated e part span (inl is) = ap (λ e. element_choices e s) is ∙ choices-Many part span
  choices_repeated e part span (inr is) = ap (λ e. element_choices e s) is ∙ choices-Some1 part span

  value_by_layer : (v : Value0) (f : Value0-F Value0) → out-Value0 v ≡ f →
      value_choices v s ≡ value_layer_choice_sites (map-Value0 Value0 (PartSite → List PartSite) value_choices f) s
  value_by_layer v f is =
      ap (λ choices. choices s)
      (fold_out-Value0 (PartSite → List PartSite) value_layer_choice_sites v
      ∙ ap (λ f. value_layer_choice_sites (map-Value0 Value0 (PartSite → List PartSite) value_choices f)) is)

  pub values-Keyword : (text : List ℕ) (span : Span) → value_choices (value.Keyword text span) s ≡ []
  values-Keyword text span = value_by_layer _ _ (value.outs-Keyword text span)

  pub values-Call : (name : List ℕ) (span : Span) → value_choices (value.Call name span) s ≡ []
  values-Call name span = value_by_layer _ _ (value.outs-Call name span)

  pub values-Cross : (wanted : List ℕ) (rule : Option (List ℕ)) (span : Span) → value_choices (value.Cross wanted rule span) s ≡ []
  values-Cross wanted rule span = value_by_layer _ _ (value.outs-Cross wanted rule span)

  pub values-Choice : (values : List Value0) (span : Span) → value_choices (value.Choice values span) s ≡ s ∷ inside s 0 (map value_choices values)
  values-Choice values span = value_by_layer _ _ (value.outs-Choice values span)

  -- what is no choice and has no parts has none
  pub element_alone : (e : Element) → ((text : List ℕ) × (span : Span) × (e ≡ element.Keyword text span))
      ⊎ (((name : List ℕ) × (span : Span) × (e ≡ element.Call name span)) ⊎ ((act : Action) × (e ≡ element.Act act))) → element_choices e s ≡ []
  element_alone e (inl (text, span, is)) = ap (λ e. element_choices e s) is ∙ choices-Keyword text span
  element_alone e (inr (inl (name, span, is))) = ap (λ e. element_choices e s) is ∙ choices-Call name span
  element_alone e (inr (inr (act, is))) = ap (λ e. element_choices e s) is ∙ choices-Act act

  pub value_alone : (v : Value0) → ((text : List ℕ) × (span : Span) × (v ≡ value.Keyword text span))
      ⊎ (((name : List ℕ) × (span : Span) × (v ≡ value.Call name span)) ⊎ ((wanted : List ℕ) × (rule : Option (List ℕ)) × (span : Span) × (v ≡ value.Cross wanted rule span))) →
      value_choices v s ≡ []
  value_alone v (inl (text, span, is)) = ap (λ v. value_choices v s) is ∙ values-Keyword text span
  value_alone v (inr (inl (name, span, is))) = ap (λ v. value_choices v s) is ∙ values-Call name span
  value_alone v (inr (inr (wanted, rule, span, is))) = ap (λ v. value_choices v s) is ∙ values-Cross wanted rule span
