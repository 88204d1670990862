-- Which calls elements and values lead to, by their forms.
use Rattle.std.proofs.Common.{◌≡◌, ℕ, ◌↔◌, List, Option, Some, None, Contains, refl, sym, ap, ◌∙◌, subst}
use Rattle.lw_base.specs.declared.token.Span.{Span}
use Rattle.lw_grammar.specs.declared.grammar.Grammar.{Grammar}
use Rattle.lw_grammar.specs.declared.rule.Element.{Element, out-Element}
use Rattle.lw_grammar.specs.declared.rule.Element.TheOpen as layer
use Rattle.lw_grammar.specs.declared.rule.Element.TheOpen.{Element-F}
use Rattle.lw_grammar.specs.declared.rule.Value0.{Value0, out-Value0}
use Rattle.lw_grammar.specs.declared.rule.Value0.TheOpen as value
use Rattle.lw_grammar.specs.declared.rule.Value0.TheOpen.{Value0-F}
use Rattle.lw_faults.specs.Reads.{ValueLeads, ValueLeadsLayer, Leads, LeadsLayer, LeadsAll}
use Rattle.lw_faults.specs.Reads as read
use Rattle.lw_kinds.specs.Crossing.{IsReadBy}

module _ (g : Grammar) where
  abbrev pub ValueLeadsTo : Value0-F Value0 → List ℕ → Type 0
  ValueLeadsTo (value.Keyword text s) name = ⊥
  ValueLeadsTo (value.Call called s) name = name ≡ called
  ValueLeadsTo (value.Cross wanted rule s) name = IsReadBy g wanted rule name
  ValueLeadsTo (value.Choice vs s) name = (v : Value0) × Contains vs v × ValueLeads g v name

  value_to : {f : Value0-F Value0} {name : List ℕ} → ValueLeadsLayer g f name → ValueLeadsTo f name
  value_to read.call_value = refl
  value_to read.cross_value = refl
  value_to (read.cross_by_name name is) = is
  value_to (read.chosen_value {v} has does) = (v, has, does)

  crossing : (wanted : List ℕ) (rule : Option (List ℕ)) (s : Span) (name : List ℕ) → IsReadBy g wanted rule name → ValueLeadsLayer g (value.Cross wanted rule s) name
  crossing wanted None s name is = read.cross_by_name name is
  crossing wanted (Some written) s name is = subst (ValueLeadsLayer g (value.Cross wanted (Some written) s)) is read.cross_value

  value_from : (f : Value0-F Value0) (name : List ℕ) → ValueLeadsTo f name → ValueLeadsLayer g f name
  value_from (value.Keyword text s) name none = absurd none
  value_from (value.Call called s) name is = subst (ValueLeadsLayer g (value.Call called s)) (sym is) read.call_value
  value_from (value.Cross wanted rule s) name is = crossing wanted rule s name is
  value_from (value.Choice vs s) name (v, has, does) = read.chosen_value has does

  out_value : {v : Value0} {name : List ℕ} → ValueLeads g v name → ValueLeadsLayer g (out-Value0 v) name
  out_value (read.value_leads does) = does

  pub value_leads_by : {v form : Value0} {f : Value0-F Value0} → v ≡ form → out-Value0 form ≡ f → (name : List ℕ) → ValueLeadsTo f name ↔ ValueLeads g v name
  value_leads_by {v} {form} {f} is out name =
      let layers : out-Value0 v ≡ f = ap out-Value0 is ∙ out in (
        λ does. read.value_leads (subst (λ x. ValueLeadsLayer g x name) (sym layers) (value_from f name does)),
        λ does. value_to (subst (λ x. ValueLeadsLayer g x name) layers (out_value does)),
      )

  abbrev pub LeadsTo : Element-F Element → List ℕ → Type 0
  LeadsTo (layer.Keyword text s) name = ⊥
  LeadsTo (layer.Call called s) name = name ≡ called
  LeadsTo (layer.Assign p op v s) name = ValueLeads g v name
  LeadsTo (layer.Act a) name = ⊥
  LeadsTo (layer.Group es s) name = LeadsAll g es name
  LeadsTo (layer.Choice es s) name = (e : Element) × Contains es e × Leads g e name
  LeadsTo (layer.Maybe e s) name = Leads g e name
  LeadsTo (layer.Many e s) name = Leads g e name
  LeadsTo (layer.Some1 e s) name = Leads g e name

  layer_to : {f : Element-F Element} {name : List ℕ} → LeadsLayer g f name → LeadsTo f name
  layer_to read.called = refl
  layer_to (read.assigned does) = does
  layer_to (read.grouped does) = does
  layer_to (read.chosen {e} has does) = (e, has, does)
  layer_to (read.taken does) = does
  layer_to (read.repeated does) = does
  layer_to (read.repeated_once does) = does

  layer_from : (f : Element-F Element) (name : List ℕ) → LeadsTo f name → LeadsLayer g f name
  layer_from (layer.Keyword text s) name none = absurd none
  layer_from (layer.Call called s) name is = subst (LeadsLayer g (layer.Call called s)) (sym is) read.called
  layer_from (layer.Assign p op v s) name does = read.assigned does
  layer_from (layer.Act a) name none = absurd none
  layer_from (layer.Group es s) name does = read.grouped does
  layer_from (layer.Choice es s) name (e, has, does) = read.chosen has does
  layer_from (layer.Maybe e s) name does = read.taken does
  layer_from (layer.Many e s) name does = read.repeated does
  layer_from (layer.Some1 e s) name does = read.repeated_once does

  out_leads : {e : Element} {name : List ℕ} → Leads g e name → LeadsLayer g (out-Element e) name
  out_leads (read.leads does) = does

  pub leads_by : {e form : Element} {f : Element-F Element} → e ≡ form → out-Element form ≡ f → (name : List ℕ) → LeadsTo f name ↔ Leads g e name
  leads_by {e} {form} {f} is out name =
      let layers : out-Element e ≡ f = ap out-Element is ∙ out in (
        λ does. read.leads (subst (λ x. LeadsLayer g x name) (sym layers) (layer_from f name does)),
        λ does. layer_to (subst (λ x. LeadsLayer g x name) layers (out_leads does)),
      )
