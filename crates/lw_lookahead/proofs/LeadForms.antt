-- What stands at the parts of a part, and may follow them, by its form.
use Rattle.std.proofs.Common.{◌≡◌, ℕ, ◌<◌, ◌⊎◌, inl, inr, List, Some, length, get_or, slice_get, refl, ap, ◌∙◌, subst}
use Rattle.std.proofs.lemmas.Option.{slice_get_read}
use Rattle.lw_base.specs.declared.token.Span.{Span}
use Rattle.lw_grammar.specs.declared.grammar.Grammar.{Grammar}
use Rattle.lw_grammar.specs.declared.rule.Element.{Element, out-Element}
use Rattle.lw_grammar.specs.declared.rule.Element.TheVariants as element
use Rattle.lw_grammar.specs.declared.rule.Value0.{Value0, out-Value0}
use Rattle.lw_grammar.specs.declared.rule.Value0.TheVariants as value
use Rattle.lw_grammar.specs.declared.rule.Op.{Op}
use Rattle.lw_grammar.specs.Kinds.{Kinds, AreKinds}
use Rattle.lw_first.specs.declared.heads.head.Head.{Head}
use Rattle.lw_first.specs.declared.first.First.{First}
use Rattle.lw_first.specs.Before.{ManyCanBefore}
use Rattle.lw_first.specs.Followed.{AreBehind}
use Rattle.lw_look.specs.Sites.{PartSite, ◌▸◌, ElementAt, ValueAt, RepeatedAt}
use Rattle.lw_look.specs.Sites as site
use Rattle.lw_look.specs.Looks as ends
use Rattle.lw_look.proofs.Standing.{layer_part_stands, way_stands, row_part_stands, option_stands, repeated_stands}
use Rattle.lw_lookahead.specs.Ways.{HasExactly}
use Rattle.lw_lookahead.specs.Gathering.{IsElementAt, IsValueAt, HasRowAt, HasAlternatives, HasSomeAlternatives, HasValueAlternatives, HasSomeValueAlternatives, HasOptional, HasRepeated}
use Rattle.lw_lookahead.proofs.FollowForms.{followed_other, followed_again, followed_in_row}
use Rattle.lw_lookahead.proofs.PointsGatherSteps.{LeadsTo}
use Rattle.lw_lookahead.proofs.SiteForms.{choice_is_other, optional_is_other, assigned_is_other, value_is_other}

-- ---- what an element or a value is

module _ (g : Grammar) (s : PartSite) where
  pub row_at : (e : Element) (parts : List Element) (span : Span) → e ≡ element.Group parts span → IsElementAt e g s → HasRowAt parts g s
  row_at e parts span is at = site.row (subst (ElementAt g s) (ap out-Element is ∙ element.outs-Group parts span) (site.element_at at))

  pub alternatives_at : (e : Element) (parts : List Element) (span : Span) → e ≡ element.Choice parts span → IsElementAt e g s → HasAlternatives parts span g s
  alternatives_at e parts span is at = subst (ElementAt g s) (ap out-Element is ∙ element.outs-Choice parts span) (site.element_at at)

  pub optional_at : (e : Element) (part : Element) (span : Span) → e ≡ element.Maybe part span → IsElementAt e g s → HasOptional part span g s
  optional_at e part span is at = subst (ElementAt g s) (ap out-Element is ∙ element.outs-Maybe part span) (site.element_at at)

  any_at : (e : Element) (part : Element) (span : Span) → e ≡ element.Many part span → IsElementAt e g s → HasRepeated part span g s
  any_at e part span is at = inl (subst (ElementAt g s) (ap out-Element is ∙ element.outs-Many part span) (site.element_at at))

  some_at : (e : Element) (part : Element) (span : Span) → e ≡ element.Some1 part span → IsElementAt e g s → HasRepeated part span g s
  some_at e part span is at = inr (subst (ElementAt g s) (ap out-Element is ∙ element.outs-Some1 part span) (site.element_at at))

  pub repeated_at : (e : Element) (part : Element) (span : Span) → (e ≡ element.Many part span) ⊎ (e ≡ element.Some1 part span) → IsElementAt e g s →
      HasRepeated part span g s
  repeated_at e part span (inl is) at = any_at e part span is at
  repeated_at e part span (inr is) at = some_at e part span is at

  pub values_at : (v : Value0) (values : List Value0) (span : Span) → v ≡ value.Choice values span → IsValueAt v g s → HasValueAlternatives values span g s
  values_at v values span is at = (v, subst (ValueAt g s v) (ap out-Value0 is ∙ value.outs-Choice values span) (site.value_at at))

-- ---- where its parts are gone into

module _ (first : First) (file : ℕ) (after : List Head) where
  pub leads_assigned : (e : Element) (p : List ℕ) (op : Op) (v : Value0) (span : Span) → e ≡ element.Assign p op v span →
      LeadsTo first file (IsElementAt e) after 0 (IsValueAt v) after
  leads_assigned e p op v span is kinds followers s are at follows =
      let g = first.lexicon.g.now in
      let there = subst (ElementAt g s) (ap out-Element is ∙ element.outs-Assign p op v span) (site.element_at at) in
      (layer_part_stands g there refl, followed_other g kinds first.k first.heads.now followers follows 0 (assigned_is_other g there) (ends.assigned there))

  pub leads_alternative : (es : List Element) (i : ℕ) (e : Element) → i < length es → e ≡ get_or es i e →
      LeadsTo first file (HasSomeAlternatives es) after i (IsElementAt e) after
  leads_alternative es i e inside is kinds followers s are (span, there) follows =
      let g = first.lexicon.g.now in
      let at = site.element there (slice_get_read es (length es) i e refl inside is) in
      (way_stands g at, followed_other g kinds first.k first.heads.now followers follows i (choice_is_other g there) (ends.alternative at))

  pub leads_value : (vs : List Value0) (i : ℕ) (v : Value0) → i < length vs → v ≡ get_or vs i v →
      LeadsTo first file (HasSomeValueAlternatives vs) after i (IsValueAt v) after
  leads_value vs i v inside is kinds followers s are (span, chosen) follows =
      let g = first.lexicon.g.now in
      let at = site.assigned chosen.1 (slice_get_read vs (length vs) i v refl inside is) in
      (way_stands g at, followed_other g kinds first.k first.heads.now followers follows i (value_is_other g chosen.1) (ends.alternative at))

  pub leads_optional : (e : Element) (span : Span) → LeadsTo first file (HasOptional e span) after 0 (IsElementAt e) after
  leads_optional e span kinds followers s are there follows =
      let g = first.lexicon.g.now in
      (option_stands g (site.optional there), followed_other g kinds first.k first.heads.now followers follows 0 (optional_is_other g there) (ends.optional (site.optional there)))

  pub leads_repeated : (e : Element) (span : Span) (again : List Head) →
      ((kinds : Kinds) → AreKinds first.lexicon.g.now kinds → HasExactly (ManyCanBefore first.lexicon.g.now kinds first.k first.heads.now e after) again) →
      LeadsTo first file (HasRepeated e span) after 0 (IsElementAt e) again
  leads_repeated e span again all kinds followers s are there follows =
      let g = first.lexicon.g.now in
      let at : RepeatedAt g s e = elim there [ inl any ↦ site.any any | inr some ↦ site.some some ] in
      (repeated_stands g at, followed_again g kinds first.k first.heads.now followers follows e again at (all kinds are))

  pub leads_in_row : (es : List Element) (behind : List (List Head)) (i : ℕ) (e : Element) (set : List Head) → i < length es → e ≡ get_or es i e →
      slice_get behind i ≡ Some set →
      ((kinds : Kinds) → AreKinds first.lexicon.g.now kinds → AreBehind first.lexicon.g.now kinds first.k first.heads.now es after behind) →
      LeadsTo first file (HasRowAt es) after i (IsElementAt e) set
  leads_in_row es behind i e set inside is at all kinds followers s are there follows =
      (stands there, followed_in_row first.lexicon.g.now kinds first.k first.heads.now followers follows es behind i set there inside (all kinds are) at)
    where
      stands : HasRowAt es first.lexicon.g.now s → IsElementAt e first.lexicon.g.now (s ▸ i)
      stands (site.row row) = row_part_stands first.lexicon.g.now row (slice_get_read es (length es) i e refl inside is)
