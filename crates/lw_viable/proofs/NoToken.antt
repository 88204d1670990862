-- Which parts of a grammar may be read without a token, form by form, and which tasks may be done so.
use Rattle.std.proofs.Common.{◌≡◌, ℕ, zero, suc, List, [], ◌∷◌, ◌++◌, Some, Contains, slice_get, refl, sym, ap, ◌∙◌, subst}
use Rattle.lw_base.specs.declared.token.Span.{Span}
use Rattle.lw_grammar.specs.declared.grammar.Grammar.{Grammar}
use Rattle.lw_grammar.specs.declared.rule.Element.{Element, out-Element}
use Rattle.lw_grammar.specs.declared.rule.Element.TheOpen as layer
use Rattle.lw_grammar.specs.declared.rule.Element.TheOpen.{Element-F}
use Rattle.lw_grammar.specs.declared.rule.Op.{Op}
use Rattle.lw_grammar.specs.declared.rule.Rule.{Rule}
use Rattle.lw_grammar.specs.declared.rule.Value0.{Value0, out-Value0}
use Rattle.lw_grammar.specs.declared.rule.Value0.TheOpen as value
use Rattle.lw_grammar.specs.declared.rule.Value0.TheOpen.{Value0-F}
use Rattle.lw_grammar.specs.Kinds.{Kinds}
use Rattle.lw_grammar.specs.Marks.{Mark, kinds_of}
use Rattle.lw_grammar.specs.Marks as mark
use Rattle.lw_grammar.specs.Yields.{Yields, Gives, YieldsAll, Repeats, Calls, RuleGives, ValueYields, ValueGives}
use Rattle.lw_grammar.specs.Yields as y
use Rattle.lw_grammar.proofs.Joined.{kinds_join}

-- ---- lists of kinds that are empty

nothing_before : (xs ys : List ℕ) → xs ++ ys ≡ [] → xs ≡ []
nothing_before [] ys none = refl
nothing_before (x ∷ xs) ys none = absurd (cc)

nothing_behind : (xs ys : List ℕ) → xs ++ ys ≡ [] → ys ≡ []
nothing_behind [] ys none = none
nothing_behind (x ∷ xs) ys none = absurd (cc)

pub front_none : (m n : List Mark) → kinds_of (m ++ n) ≡ [] → kinds_of m ≡ []
front_none m n none = nothing_before (kinds_of m) (kinds_of n) (sym (kinds_join m n) ∙ none)

back_none : (m n : List Mark) → kinds_of (m ++ n) ≡ [] → kinds_of n ≡ []
back_none m n none = nothing_behind (kinds_of m) (kinds_of n) (sym (kinds_join m n) ∙ none)

both_none : (m n : List Mark) → kinds_of m ≡ [] → kinds_of n ≡ [] → kinds_of (m ++ n) ≡ []
both_none m n none also = kinds_join m n ∙ ap (λ ks. ks ++ kinds_of n) none ∙ also

pub a_token : {k : ℕ} → kinds_of (mark.Token k ∷ []) ≡ [] → ⊥
a_token none = cc

module _ (g : Grammar) (kinds : Kinds) where
  -- ---- without a token

  abbrev pub ElementNone : Element → Type 0
  ElementNone e = (m : List Mark) × Yields g kinds e m × (kinds_of m ≡ [])

  abbrev pub LayerNone : Element-F Element → Type 0
  LayerNone f = (m : List Mark) × Gives g kinds f m × (kinds_of m ≡ [])

  abbrev pub ValueNone : Value0 → Type 0
  ValueNone v = (c : Value0) × (m : List Mark) × ValueYields g kinds v c m × (kinds_of m ≡ [])

  abbrev pub ValueLayerNone : Value0 → Value0-F Value0 → Type 0
  ValueLayerNone v f = (c : Value0) × (m : List Mark) × ValueGives g kinds v f c m × (kinds_of m ≡ [])

  abbrev pub CallNone : List ℕ → Type 0
  CallNone name = (m : List Mark) × Calls g kinds name m × (kinds_of m ≡ [])

  abbrev pub RuleNone : ℕ → Rule → Type 0
  RuleNone r rule = (m : List Mark) × RuleGives g kinds r rule m × (kinds_of m ≡ [])

  -- ---- an element and its form

  pub layer_of : {e : Element} → ElementNone e → LayerNone (out-Element e)
  layer_of (m, y.yields p, none) = (m, p, none)

  pub of_layer : {e : Element} {f : Element-F Element} → out-Element e ≡ f → LayerNone f → ElementNone e
  of_layer {e} is (m, p, none) = (m, y.yields (subst (λ f. Gives g kinds f m) (sym is) p), none)

  pub layer_as : {e : Element} {f : Element-F Element} → out-Element e ≡ f → ElementNone e → LayerNone f
  layer_as is none = subst LayerNone is (layer_of none)

  pub value_as : {v : Value0} {f : Value0-F Value0} → out-Value0 v ≡ f → ValueNone v → ValueLayerNone v f
  value_as {v} is (c, m, y.reads p, none) = (c, m, subst (λ f. ValueGives g kinds v f c m) is p, none)

  pub of_value : {v : Value0} {f : Value0-F Value0} → out-Value0 v ≡ f → ValueLayerNone v f → ValueNone v
  of_value {v} is (c, m, p, none) = (c, m, y.reads (subst (λ f. ValueGives g kinds v f c m) (sym is) p), none)

  -- ---- forms of elements

  pub no_keyword : {text : List ℕ} {s : Span} → LayerNone (layer.Keyword text s) → ⊥
  no_keyword (m, y.keyword is, none) = a_token none

  pub call_of : {name : List ℕ} {s : Span} → LayerNone (layer.Call name s) → CallNone name
  call_of (m, y.called c, none) = (m, c, none)

  pub each_none : {es : List Element} {m : List Mark} → YieldsAll g kinds es m → kinds_of m ≡ [] → (i : ℕ) (e : Element) → slice_get es i ≡ Some e → ElementNone e
  each_none y.none none i e at = absurd (cc)
  each_none (y.more {m} {n} p ps) none zero e at = subst ElementNone (cc) (m, p, front_none m n none)
  each_none (y.more {m} {n} p ps) none (suc i) e at = each_none ps (back_none m n none) i e at

  pub all_none : (es : List Element) → ((i : ℕ) (e : Element) → slice_get es i ≡ Some e → ElementNone e) → (m : List Mark) × YieldsAll g kinds es m × (kinds_of m ≡ [])
  all_none [] each = ([], y.none, refl)
  all_none (e ∷ es) each =
      let (m, p, none) = each zero e refl in
      let (n, ps, also) = all_none es (λ i e at. each (suc i) e at) in
      (m ++ n, y.more p ps, both_none m n none also)

  pub row_of : {es : List Element} {s : Span} → LayerNone (layer.Group es s) → (i : ℕ) (e : Element) → slice_get es i ≡ Some e → ElementNone e
  row_of (m, y.grouped ps, none) = each_none ps none

  pub way_of : {es : List Element} {s : Span} → LayerNone (layer.Choice es s) → (e : Element) × Contains es e × ElementNone e
  way_of (m, y.chosen {e} has p, none) = (e, has, (m, p, none))

  pub once_of : {e : Element} {s : Span} → LayerNone (layer.Some1 e s) → ElementNone e
  once_of (m, y.repeated_once {m = a} {n = b} p ps, none) = (a, p, front_none a b none)

  -- ---- forms of values

  pub no_keyword_value : {v : Value0} {text : List ℕ} {s : Span} → ValueLayerNone v (value.Keyword text s) → ⊥
  no_keyword_value (c, m, y.keyword_value is, none) = a_token none

  pub way_of_value : {v : Value0} {vs : List Value0} {s : Span} → ValueLayerNone v (value.Choice vs s) → (w : Value0) × Contains vs w × ValueNone w
  way_of_value (c, m, y.chosen_value {w} has p, none) = (w, has, (c, m, p, none))
