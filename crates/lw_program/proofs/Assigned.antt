-- A value goes into one property and by one operator, and so the recipe of what goes there is that of the value at the site.
use Rattle.std.proofs.Common.{◌≡◌, ℕ, List, Some, map, option_map, slice_get, sym, ap, ◌∙◌, subst}
use Rattle.std.proofs.lemmas.Option.{slice_get-map}
use Rattle.lw_base.specs.declared.token.Span.{Span}
use Rattle.lw_grammar.specs.declared.grammar.Grammar.{Grammar}
use Rattle.lw_grammar.specs.declared.rule.Action.{Action}
use Rattle.lw_grammar.specs.declared.rule.Element.{Element, out-Element}
use Rattle.lw_grammar.specs.declared.rule.Element.TheOpen as layer
use Rattle.lw_grammar.specs.declared.rule.Element.TheOpen.{Element-F}
use Rattle.lw_grammar.specs.declared.rule.Op.{Op}
use Rattle.lw_grammar.specs.declared.rule.Value0.{Value0, out-Value0}
use Rattle.lw_grammar.specs.declared.rule.Value0.TheOpen as value
use Rattle.lw_grammar.specs.declared.rule.Value0.TheOpen.{Value0-F}
use Rattle.lw_look.specs.Sites.{PartSite, ◌▸◌, Part, Body, Value, element_parts, value_parts, IsPartAt, ElementAt, ValueAt}
use Rattle.lw_look.specs.Sites as site
use Rattle.lw_look.proofs.Standing.{one_stands, same_body, same_value, no_body_is_value}
use Rattle.lw_reading.specs.Numbers.{IsNumberOfProperty}
use Rattle.lw_program.specs.Meant.{AssignedAt}
use Rattle.lw_program.specs.Meant as meant
use Rattle.lw_program.specs.Drafted.{ArePartsAt, GoesTo, IsContentOf, IsValueRecipe, IsRecipeOf, IsActionRecipe}
use Rattle.lw_program.specs.declared.recipes.recipe.ActionRecipe.{ActionRecipe}
use Rattle.lw_program.specs.declared.recipes.recipe.ValueRecipe.{ValueRecipe}
use Rattle.lw_program.specs.declared.recipes.values.Target.{Target}

module _ (g : Grammar) where
  one_layer : {s : PartSite} {f h : Element-F Element} → ElementAt g s f → ElementAt g s h → f ≡ h
  one_layer (site.element_at is) (site.element_at was) = ap out-Element (same_body (one_stands g is was))

  no_value : {s : PartSite} {f : Element-F Element} {v : Value0} {h : Value0-F Value0} → ElementAt g s f → ValueAt g s v h → ⊥
  no_value (site.element_at is) (site.value_at was) = no_body_is_value (one_stands g is was)

  one_assigned : {s : PartSite} {p q : List ℕ} {op other : Op} → AssignedAt g s p op → AssignedAt g s q other → (p ≡ q) × (op ≡ other)
  one_assigned (meant.whole is) (meant.whole was) = let same = one_layer is was in (cc, cc)
  one_assigned (meant.whole is) (meant.way i was at) = absurd (no_value is at)
  one_assigned (meant.way i is at) (meant.whole was) = absurd (no_value was at)
  one_assigned (meant.way i is at) (meant.way j was there) = one_assigned is was

  -- the recipe of the value that stands at the site
  pub is_value_recipe : (target : Target) (s : PartSite) (v : Value0) (recipe : ValueRecipe) → GoesTo g target s → IsPartAt g s (Value v) → recipe.prop ≡ target.prop →
      IsContentOf g target.op v recipe.content → IsValueRecipe g s recipe
  is_value_recipe target s v recipe (name, goes, numbered) stands same content p op c assigned there =
      let (same_name, same_op) = one_assigned goes assigned in
      let same_v : v ≡ c = same_value (one_stands g stands there) in (
        subst (λ id. IsNumberOfProperty g p id.0) (sym same) (subst (λ name. IsNumberOfProperty g name target.prop.0) same_name numbered),
        subst (λ op. IsContentOf g op c recipe.content) same_op (subst (λ v. IsContentOf g target.op v recipe.content) same_v content),
      )

  pub is_action_recipe : (s : PartSite) (a : Action) (recipe : ActionRecipe) → ElementAt g s (layer.Act a) → IsRecipeOf g a recipe → IsActionRecipe g s recipe
  is_action_recipe s a recipe at is b there =
      let layers = one_layer at there in let same : a ≡ b = cc in subst (λ a. IsRecipeOf g a recipe) same is

  -- ---- where parts stand

  -- behind an element or a value of this form
  pub layer_stands : (s : PartSite) (e : Element) (f : Element-F Element) → out-Element e ≡ f → IsPartAt g s (Body e) → ArePartsAt g s (element_parts f)
  layer_stands s e f is stands i y at = site.part stands (ap (λ f. slice_get (element_parts f) i) is ∙ at)

  pub value_layer_stands : (s : PartSite) (v : Value0) (f : Value0-F Value0) → out-Value0 v ≡ f → IsPartAt g s (Value v) → ArePartsAt g s (value_parts f)
  value_layer_stands s v f is stands i y at = site.part stands (ap (λ f. slice_get (value_parts f) i) is ∙ at)

  pub part_stands : {X : Type 0} (part : X → Part) (s : PartSite) (xs : List X) (i : ℕ) (x : X) → ArePartsAt g s (map part xs) → slice_get xs i ≡ Some x →
      IsPartAt g (s ▸ i) (part x)
  part_stands part s xs i x all at = all i (part x) (slice_get-map part xs i ∙ ap (option_map part) at)

  pub element_stands : (s : PartSite) (e : Element) (f : Element-F Element) → out-Element e ≡ f → IsPartAt g s (Body e) → ElementAt g s f
  element_stands s e f is stands = subst (ElementAt g s) is (site.element_at stands)

  -- each way of a choice goes where the choice goes
  pub ways_go : (target : Target) (s : PartSite) (v : Value0) (vs : List Value0) (span : Span) → out-Value0 v ≡ value.Choice vs span → GoesTo g target s →
      IsPartAt g s (Value v) → (i : ℕ) → GoesTo g target (s ▸ i)
  ways_go target s v vs span is (name, goes, numbered) stands i =
      (name, meant.way i goes (subst (ValueAt g s v) is (site.value_at stands)), numbered)

  -- the value of an assignment goes into its property
  pub value_goes : (target : Target) (s : PartSite) (e : Element) (p : List ℕ) (v : Value0) (span : Span) → out-Element e ≡ layer.Assign p target.op v span →
      IsNumberOfProperty g p target.prop.0 → IsPartAt g s (Body e) → GoesTo g target (s ▸ 0)
  value_goes target s e p v span is numbered stands = (p, meant.whole (element_stands s e (layer.Assign p target.op v span) is stands), numbered)
