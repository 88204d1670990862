-- What passes, by its form, and one part of a row after the other.
use Rattle.std.proofs.Common.{◌≡◌, ℕ, zero, suc, ◌+◌, ◌<◌, ◌≤◌, ◌↔◌, List, [], ◌∷◌, Bool, length, get_or, drop, Contains, sym, ap, ◌∙◌, subst, arith, add-one, drop-cons}
use Rattle.std.specs.Prelude.{IsTrue}
use Rattle.std.proofs.lemmas.List.{drop_all}
use Rattle.lw_grammar.specs.declared.grammar.Grammar.{Grammar}
use Rattle.lw_grammar.specs.declared.rule.Element.{Element, out-Element}
use Rattle.lw_grammar.specs.declared.rule.Element.TheOpen as layer
use Rattle.lw_grammar.specs.declared.rule.Element.TheOpen.{Element-F}
use Rattle.lw_grammar.specs.declared.rule.Value0.{Value0, out-Value0}
use Rattle.lw_grammar.specs.declared.rule.Value0.TheOpen as value
use Rattle.lw_grammar.specs.declared.rule.Value0.TheOpen.{Value0-F}
use Rattle.lw_kinds.specs.Passing.{CallPasses, CrossPasses, ValuePasses, ValuePassesLayer, SomeValuePasses, Passes, PassesLayer, EachPasses, SomePass}
use Rattle.lw_kinds.specs.Passing as pass

-- what is read at a place stands there
pub read_there : {X : Type 0} (xs : List X) (i : ℕ) (x : X) → i < length xs → x ≡ get_or xs i x → Contains xs x
read_there xs i x inside is = (i, inside, sym is)

-- what is left at a place, if anything is
pub left_here : {X : Type 0} (xs : List X) (i : ℕ) (x : X) → i < length xs → x ≡ get_or xs i x → drop i xs ≡ x ∷ drop (i + 1) xs
left_here xs i x inside is = drop-cons xs i x inside ∙ ap (λ y. y ∷ drop (suc i) xs) (sym is) ∙ ap (λ n. x ∷ drop n xs) (sym (add-one i))

module _ (g : Grammar) (tokens : Bool) (flags : List Bool) where
  -- ---- elements
  abbrev pub PassesBy : Element-F Element → Type 0
  PassesBy (layer.Keyword text s) = IsTrue tokens
  PassesBy (layer.Call name s) = CallPasses g tokens flags name
  PassesBy (layer.Assign p op v s) = ValuePasses g tokens flags v
  PassesBy (layer.Act a) = Unit {0}
  PassesBy (layer.Group es s) = EachPasses g tokens flags es
  PassesBy (layer.Choice es s) = SomePass g tokens flags es
  PassesBy (layer.Maybe e s) = Unit {0}
  PassesBy (layer.Many e s) = Unit {0}
  PassesBy (layer.Some1 e s) = Passes g tokens flags e

  by_layer : {f : Element-F Element} → PassesLayer g tokens flags f → PassesBy f
  by_layer (pass.keyword allowed) = allowed
  by_layer (pass.called does) = does
  by_layer (pass.assigned does) = does
  by_layer pass.acted = tt
  by_layer (pass.grouped does) = does
  by_layer (pass.chosen does) = does
  by_layer pass.skipped = tt
  by_layer pass.repeated = tt
  by_layer (pass.repeated_once does) = does

  to_layer : (f : Element-F Element) → PassesBy f → PassesLayer g tokens flags f
  to_layer (layer.Keyword text s) allowed = pass.keyword allowed
  to_layer (layer.Call name s) does = pass.called does
  to_layer (layer.Assign p op v s) does = pass.assigned does
  to_layer (layer.Act a) does = pass.acted
  to_layer (layer.Group es s) does = pass.grouped does
  to_layer (layer.Choice es s) does = pass.chosen does
  to_layer (layer.Maybe e s) does = pass.skipped
  to_layer (layer.Many e s) does = pass.repeated
  to_layer (layer.Some1 e s) does = pass.repeated_once does

  out_passes : {e : Element} → Passes g tokens flags e → PassesLayer g tokens flags (out-Element e)
  out_passes (pass.passes does) = does

  pub passes_by : {P : Type 0} {e form : Element} {f : Element-F Element} → e ≡ form → out-Element form ≡ f → P ↔ PassesBy f → P ↔ Passes g tokens flags e
  passes_by {e = e} {f = f} is out same =
      let layers : out-Element e ≡ f = ap out-Element is ∙ out in (
        λ p. pass.passes (subst (PassesLayer g tokens flags) (sym layers) (to_layer f (same.0 p))),
        λ does. same.1 (by_layer (subst (PassesLayer g tokens flags) layers (out_passes does))),
      )

  -- ---- values
  abbrev pub ValuePassesBy : Value0-F Value0 → Type 0
  ValuePassesBy (value.Keyword text s) = IsTrue tokens
  ValuePassesBy (value.Call name s) = CallPasses g tokens flags name
  ValuePassesBy (value.Cross wanted rule s) = CrossPasses g tokens flags wanted rule
  ValuePassesBy (value.Choice vs s) = SomeValuePasses g tokens flags vs

  by_value : {f : Value0-F Value0} → ValuePassesLayer g tokens flags f → ValuePassesBy f
  by_value (pass.keyword_value allowed) = allowed
  by_value (pass.call_value does) = does
  by_value (pass.cross_value does) = does
  by_value (pass.chosen_value does) = does

  to_value : (f : Value0-F Value0) → ValuePassesBy f → ValuePassesLayer g tokens flags f
  to_value (value.Keyword text s) allowed = pass.keyword_value allowed
  to_value (value.Call name s) does = pass.call_value does
  to_value (value.Cross wanted rule s) does = pass.cross_value does
  to_value (value.Choice vs s) does = pass.chosen_value does

  out_value : {v : Value0} → ValuePasses g tokens flags v → ValuePassesLayer g tokens flags (out-Value0 v)
  out_value (pass.value_passes does) = does

  pub value_passes_by : {P : Type 0} {v form : Value0} {f : Value0-F Value0} → v ≡ form → out-Value0 form ≡ f → P ↔ ValuePassesBy f → P ↔ ValuePasses g tokens flags v
  value_passes_by {v = v} {f = f} is out same =
      let layers : out-Value0 v ≡ f = ap out-Value0 is ∙ out in (
        λ p. pass.value_passes (subst (ValuePassesLayer g tokens flags) (sym layers) (to_value f (same.0 p))),
        λ does. same.1 (by_value (subst (ValuePassesLayer g tokens flags) layers (out_value does))),
      )

  -- ---- rows
  pub all_of : (es : List Element) (e : Element) → EachPasses g tokens flags es → Contains es e → Passes g tokens flags e
  all_of [] e all (k, inside, is) = absurd (omega arith)
  all_of (x ∷ es) e (pass.more does others) (zero, inside, is) = subst (Passes g tokens flags) is does
  all_of (x ∷ es) e (pass.more does others) (suc k, inside, is) = all_of es e others (k, omega arith, is)

  other_passes : {e : Element} {es : List Element} → (Passes g tokens flags e → ⊥) → SomePass g tokens flags (e ∷ es) → SomePass g tokens flags es
  other_passes not (pass.this does) = absurd (not does)
  other_passes not (pass.other does) = does

  other_value_passes : {v : Value0} {vs : List Value0} → (ValuePasses g tokens flags v → ⊥) → SomeValuePasses g tokens flags (v ∷ vs) → SomeValuePasses g tokens flags vs
  other_value_passes not (pass.this does) = absurd (not does)
  other_value_passes not (pass.other does) = does

  none_passes : SomePass g tokens flags [] → ⊥
  none_passes some = elim some [ ]

  no_value_passes : SomeValuePasses g tokens flags [] → ⊥
  no_value_passes some = elim some [ ]

  -- the steps of loops over a row, of which the front was looked at
  module _ (es : List Element) (i : ℕ) where
    pub next_all : (e : Element) → i < length es → e ≡ get_or es i e → Passes g tokens flags e → EachPasses g tokens flags (drop (i + 1) es) → EachPasses g tokens flags (drop i es)
    next_all e inside is does others = subst (EachPasses g tokens flags) (sym (left_here es i e inside is)) (pass.more does others)

    pub over_all : length es ≤ i → EachPasses g tokens flags (drop i es)
    over_all past = subst (EachPasses g tokens flags) (sym (drop_all i es past)) pass.none

    pub next_some : (e : Element) → i < length es → e ≡ get_or es i e → (Passes g tokens flags e → ⊥) → SomePass g tokens flags (drop i es) → SomePass g tokens flags (drop (i + 1) es)
    next_some e inside is not some = other_passes not (subst (SomePass g tokens flags) (left_here es i e inside is) some)

    pub over_some : length es ≤ i → SomePass g tokens flags (drop i es) → ⊥
    over_some past some = none_passes (subst (SomePass g tokens flags) (drop_all i es past) some)

  module _ (vs : List Value0) (i : ℕ) where
    pub next_value : (v : Value0) → i < length vs → v ≡ get_or vs i v → (ValuePasses g tokens flags v → ⊥) → SomeValuePasses g tokens flags (drop i vs) →
        SomeValuePasses g tokens flags (drop (i + 1) vs)
    next_value v inside is not some = other_value_passes not (subst (SomeValuePasses g tokens flags) (left_here vs i v inside is) some)

    pub over_values : length vs ≤ i → SomeValuePasses g tokens flags (drop i vs) → ⊥
    over_values past some = no_value_passes (subst (SomeValuePasses g tokens flags) (drop_all i vs past) some)
