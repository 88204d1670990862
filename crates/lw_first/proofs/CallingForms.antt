-- Which rules a part calls, by its form.
use Rattle.std.proofs.Common.{◌≡◌, ℕ, List, Some, Contains, ◌⊎◌, inl, inr, ◌↔◌, slice_get, refl, sym, ap, ◌∙◌, subst}
use Rattle.std.specs.Prelude.{Result, OnOk}
use Rattle.std.proofs.lemmas.Option.{none-some}
use Rattle.std.proofs.lemmas.Result.{on_ok_weaker}
use Rattle.lw_grammar.specs.declared.grammar.Grammar.{Grammar}
use Rattle.lw_grammar.specs.declared.rule.Element.{Element, out-Element}
use Rattle.lw_grammar.specs.declared.rule.Element.TheOpen as layer
use Rattle.lw_grammar.specs.declared.rule.Element.TheOpen.{Element-F}
use Rattle.lw_grammar.specs.declared.rule.Rule.{Rule}
use Rattle.lw_grammar.specs.declared.rule.Value0.{Value0, out-Value0}
use Rattle.lw_grammar.specs.declared.rule.Value0.TheOpen as value
use Rattle.lw_grammar.specs.declared.rule.Value0.TheOpen.{Value0-F}
use Rattle.lw_grammar.specs.Named.{IsRule}
use Rattle.lw_grammar.proofs.FirstLemmas.{first_place}
use Rattle.lw_graph.specs.Walks.{Links, HasEdge}
use Rattle.lw_look.specs.Sites.{Part, Body, Value, element_parts, value_parts}
use Rattle.lw_look.specs.ReadBy as read
use Rattle.lw_look.proofs.Reaching.{unmapped, one_item}
use Rattle.lw_base.proofs.Lists.{among}
use Rattle.lw_kinds.specs.Crossing.{IsReadBy}
use Rattle.lw_first.specs.Calling.{HasCall, here, inside, AddsCalls}

module _ (g : Grammar) (r : ℕ) where
  -- ---- values

  abbrev pub ValueCalls : Value0-F Value0 → Type 0
  ValueCalls (value.Keyword text s) = ⊥
  ValueCalls (value.Call name s) = (rule : Rule) × IsRule g name r rule
  ValueCalls (value.Cross wanted written s) = (name : List ℕ) × IsReadBy g wanted written name × ((rule : Rule) × IsRule g name r rule)
  ValueCalls (value.Choice vs s) = (v : Value0) × Contains vs v × HasCall g (Value v) r

  inside_value : (f : Value0-F Value0) (y : Part) (i : ℕ) → slice_get (value_parts f) i ≡ Some y → HasCall g y r → ValueCalls f
  inside_value (value.Keyword text s) y i is has = absurd (none-some y is)
  inside_value (value.Call name s) y i is has = absurd (none-some y is)
  inside_value (value.Cross wanted written s) y i is has = absurd (none-some y is)
  inside_value (value.Choice vs s) y i is has = let (v, at, same) = unmapped Value vs i y is in (v, among vs i v at, subst (λ x. HasCall g x r) (sym same) has)

  value_calls : (v : Value0) → HasCall g (Value v) r → ValueCalls (out-Value0 v)
  value_calls v (here name rule (read.value_ is) means) = subst ValueCalls (sym is) (rule, means)
  value_calls v (here name rule (read.crosses is) means) = subst ValueCalls (sym is) (name, refl, (rule, means))
  value_calls v (here name rule (read.crosses_by_name is by) means) = subst ValueCalls (sym is) (name, by, (rule, means))
  value_calls v (inside y i is has) = inside_value (out-Value0 v) y i is has

  -- ---- elements

  abbrev pub ElementCalls : Element-F Element → Type 0
  ElementCalls (layer.Keyword text s) = ⊥
  ElementCalls (layer.Call name s) = (rule : Rule) × IsRule g name r rule
  ElementCalls (layer.Assign p op v s) = HasCall g (Value v) r
  ElementCalls (layer.Act act) = ⊥
  ElementCalls (layer.Group es s) = (e : Element) × Contains es e × HasCall g (Body e) r
  ElementCalls (layer.Choice es s) = (e : Element) × Contains es e × HasCall g (Body e) r
  ElementCalls (layer.Maybe e s) = HasCall g (Body e) r
  ElementCalls (layer.Many e s) = HasCall g (Body e) r
  ElementCalls (layer.Some1 e s) = HasCall g (Body e) r

  inside_element : (f : Element-F Element) (y : Part) (i : ℕ) → slice_get (element_parts f) i ≡ Some y → HasCall g y r → ElementCalls f
  inside_element (layer.Keyword text s) y i is has = absurd (none-some y is)
  inside_element (layer.Call name s) y i is has = absurd (none-some y is)
  inside_element (layer.Assign p op v s) y i is has = subst (λ x. HasCall g x r) (sym (one_item i is)) has
  inside_element (layer.Act act) y i is has = absurd (none-some y is)
  inside_element (layer.Group es s) y i is has = let (e, at, same) = unmapped Body es i y is in (e, among es i e at, subst (λ x. HasCall g x r) (sym same) has)
  inside_element (layer.Choice es s) y i is has = let (e, at, same) = unmapped Body es i y is in (e, among es i e at, subst (λ x. HasCall g x r) (sym same) has)
  inside_element (layer.Maybe e s) y i is has = subst (λ x. HasCall g x r) (sym (one_item i is)) has
  inside_element (layer.Many e s) y i is has = subst (λ x. HasCall g x r) (sym (one_item i is)) has
  inside_element (layer.Some1 e s) y i is has = subst (λ x. HasCall g x r) (sym (one_item i is)) has

  element_calls : (e : Element) → HasCall g (Body e) r → ElementCalls (out-Element e)
  element_calls e (here name rule (read.element is) means) = subst ElementCalls (sym is) (rule, means)
  element_calls e (inside y i is has) = inside_element (out-Element e) y i is has

-- ---- edges put in

module _ (caller : ℕ) where
  pub calls_none : (Called : ℕ → Type 0) (graph : Links) → ((r : ℕ) → ¬ Called r) → AddsCalls caller Called graph graph
  calls_none Called graph none = record { nodes = refl; keeps = λ a b has. has; all = λ r calls. absurd (none r calls) }

  pub calls_as : {Called Other : ℕ → Type 0} (old new : Links) → ((r : ℕ) → Other r → Called r) → AddsCalls caller Called old new → AddsCalls caller Other old new
  calls_as old new known adds = record { nodes = adds.nodes; keeps = adds.keeps; all = λ r calls. adds.all r (known r calls) }

  module _ (g : Grammar) where
    pub value_adds_calls : {T E : Type 0} {v form : Value0} {f : Value0-F Value0} (result : Result T E) (old new : Links) → v ≡ form → out-Value0 form ≡ f →
        OnOk result (AddsCalls caller (λ r. ValueCalls g r f) old new) → OnOk result (AddsCalls caller (HasCall g (Value v)) old new)
    value_adds_calls {v = v} result old new is out =
        on_ok_weaker result (calls_as old new (λ r has. subst (ValueCalls g r) (ap out-Value0 is ∙ out) (value_calls g r v has)))

    pub element_adds_calls : {T E : Type 0} {e form : Element} {f : Element-F Element} (result : Result T E) (old new : Links) → e ≡ form → out-Element form ≡ f →
        OnOk result (AddsCalls caller (λ r. ElementCalls g r f) old new) → OnOk result (AddsCalls caller (HasCall g (Body e)) old new)
    element_adds_calls {e = e} result old new is out =
        on_ok_weaker result (calls_as old new (λ r has. subst (ElementCalls g r) (ap out-Element is ∙ out) (element_calls g r e has)))

    pub no_element_calls : {e form : Element} {f : Element-F Element} (graph : Links) → e ≡ form → out-Element form ≡ f → ((r : ℕ) → ¬ ElementCalls g r f) →
        AddsCalls caller (HasCall g (Body e)) graph graph
    no_element_calls {e = e} graph is out none =
        calls_none (HasCall g (Body e)) graph (λ r has. none r (subst (ElementCalls g r) (ap out-Element is ∙ out) (element_calls g r e has)))

    pub no_value_calls : {v form : Value0} {f : Value0-F Value0} (graph : Links) → v ≡ form → out-Value0 form ≡ f → ((r : ℕ) → ¬ ValueCalls g r f) →
        AddsCalls caller (HasCall g (Value v)) graph graph
    no_value_calls {v = v} graph is out none =
        calls_none (HasCall g (Value v)) graph (λ r has. none r (subst (ValueCalls g r) (ap out-Value0 is ∙ out) (value_calls g r v has)))

    -- one rule is called
    pub calls_one : (name : List ℕ) (callee : ℕ) (rule : Rule) → IsRule g name callee rule → (old new : Links) → new.nodes ≡ old.nodes →
        ((a b : ℕ) → HasEdge new a b ↔ (HasEdge old a b ⊎ ((a ≡ callee) × (b ≡ caller)))) → AddsCalls caller (λ r. (other : Rule) × IsRule g name r other) old new
    calls_one name callee rule means old new nodes edges = record {
      nodes = nodes;
      keeps = λ a b has. (edges a b).1 (inl has);
      all = λ r (other, is). (edges r caller).1 (inr (first_place is.first means.first, refl));
    }
