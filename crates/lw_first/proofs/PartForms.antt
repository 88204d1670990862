-- What may come before given heads, by the form of the part that stands there.
use Rattle.std.proofs.Common.{◌≡◌, ℕ, List, Some, None, inl, inr, refl, sym, ap, ◌∙◌, subst}
use Rattle.std.specs.Prelude.{Result, OnOk}
use Rattle.std.proofs.lemmas.Result.{on_ok_weaker}
use Rattle.lw_grammar.specs.declared.grammar.Grammar.{Grammar}
use Rattle.lw_grammar.specs.declared.rule.Element.{Element, out-Element}
use Rattle.lw_grammar.specs.declared.rule.Element.TheOpen as layer
use Rattle.lw_grammar.specs.declared.rule.Element.TheOpen.{Element-F}
use Rattle.lw_grammar.specs.declared.rule.Value0.{Value0, out-Value0}
use Rattle.lw_grammar.specs.declared.rule.Value0.TheOpen as value
use Rattle.lw_grammar.specs.declared.rule.Value0.TheOpen.{Value0-F}
use Rattle.lw_grammar.specs.Kinds.{Kinds}
use Rattle.lw_look.specs.Sites.{Body, Value}
use Rattle.lw_look.specs.ReadBy as read
use Rattle.lw_look.specs.Heads as can
use Rattle.lw_first.specs.declared.heads.head.Head.{Head}
use Rattle.lw_first.specs.Sets.{AddsHeads, IsAmongHeads, IsInSet}
use Rattle.lw_first.proofs.HeadLemmas.{adds_as}
use Rattle.lw_first.specs.Before.{CanBefore, RowCanBefore, ManyCanBefore}
use Rattle.lw_first.specs.Forms.{KeywordBefore, CallBefore, CrossBefore, ValuesBefore, ChosenBefore, MaybeBefore, OnceBefore}

module _ (g : Grammar) (kinds : Kinds) (k : ℕ) (sets : List (List Head)) (after : List Head) where
  -- ---- values

  abbrev pub ValueBefore : Value0-F Value0 → List ℕ → Type 0
  ValueBefore (value.Keyword text s) = KeywordBefore kinds k text after
  ValueBefore (value.Call name s) = CallBefore g kinds k sets name after
  ValueBefore (value.Cross wanted written s) = CrossBefore g kinds k sets wanted written after
  ValueBefore (value.Choice vs s) = ValuesBefore g kinds k sets vs after

  to_value : (v : Value0) (f : Value0-F Value0) → out-Value0 v ≡ f → (h : List ℕ) → ValueBefore f h → CanBefore g kinds k sets (Value v) after h
  to_value v (value.Keyword text s) is h (n, at, (a, among, same)) =
      (a, among, subst (can.Can g kinds k (IsInSet sets) (Value v) a) (sym same) (can.keyword n (read.value_ is) at))
  to_value v (value.Call name s) is h before = called before
    where
      called : CallBefore g kinds k sets name after h → CanBefore g kinds k sets (Value v) after h
      called (inl (n, at, (a, among, same))) = (a, among, subst (can.Can g kinds k (IsInSet sets) (Value v) a) (sym same) (can.terminal n (read.value_ is) at))
      called (inr (r, rule, at, (front, has, (a, among, same)))) =
          (a, among, subst (can.Can g kinds k (IsInSet sets) (Value v) a) (sym same) (can.called (read.value_ is) at has))
  to_value v (value.Cross wanted (Some written) s) is h (name, reads, before) = called before
    where
      reads_by : read.PartReadsBy g (Value v) name
      reads_by = subst (read.PartReadsBy g (Value v)) reads (read.crosses is)

      called : CallBefore g kinds k sets name after h → CanBefore g kinds k sets (Value v) after h
      called (inl (n, at, (a, among, same))) = (a, among, subst (can.Can g kinds k (IsInSet sets) (Value v) a) (sym same) (can.terminal n reads_by at))
      called (inr (r, rule, at, (front, has, (a, among, same)))) =
          (a, among, subst (can.Can g kinds k (IsInSet sets) (Value v) a) (sym same) (can.called reads_by at has))
  to_value v (value.Cross wanted None s) is h (name, reads, before) = called before
    where
      called : CallBefore g kinds k sets name after h → CanBefore g kinds k sets (Value v) after h
      called (inl (n, at, (a, among, same))) =
          (a, among, subst (can.Can g kinds k (IsInSet sets) (Value v) a) (sym same) (can.terminal n (read.crosses_by_name is reads) at))
      called (inr (r, rule, at, (front, has, (a, among, same)))) =
          (a, among, subst (can.Can g kinds k (IsInSet sets) (Value v) a) (sym same) (can.called (read.crosses_by_name is reads) at has))
  to_value v (value.Choice vs s) is h (w, has, (a, among, does)) = (a, among, can.chosen_value is has does)

  from_value : (v : Value0) (a h : List ℕ) → IsAmongHeads after a → can.Can g kinds k (IsInSet sets) (Value v) a h → ValueBefore (out-Value0 v) h
  from_value v a h among (can.keyword n (read.value_ is) at) = subst (λ f. ValueBefore f h) (sym is) (n, at, (a, among, refl))
  from_value v a h among (can.terminal n (read.value_ is) at) = subst (λ f. ValueBefore f h) (sym is) (inl (n, at, (a, among, refl)))
  from_value v a h among (can.terminal n (read.crosses {name} is) at) = subst (λ f. ValueBefore f h) (sym is) (name, refl, inl (n, at, (a, among, refl)))
  from_value v a h among (can.terminal n (read.crosses_by_name {name} is by) at) = subst (λ f. ValueBefore f h) (sym is) (name, by, inl (n, at, (a, among, refl)))
  from_value v a h among (can.called {r} {rule} {h = front} (read.value_ is) at holds) =
      subst (λ f. ValueBefore f h) (sym is) (inr (r, rule, at, (front, holds, (a, among, refl))))
  from_value v a h among (can.called {r} {rule} {h = front} (read.crosses {name} is) at holds) =
      subst (λ f. ValueBefore f h) (sym is) (name, refl, inr (r, rule, at, (front, holds, (a, among, refl))))
  from_value v a h among (can.called {r} {rule} {h = front} (read.crosses_by_name {name} is by) at holds) =
      subst (λ f. ValueBefore f h) (sym is) (name, by, inr (r, rule, at, (front, holds, (a, among, refl))))
  from_value v a h among (can.chosen_value {w} is has does) = subst (λ f. ValueBefore f h) (sym is) (w, has, (a, among, does))

  -- where it is found what may come where a value of this form stands, it is found for the value
  pub value_adds : {T E : Type 0} {v form : Value0} {f : Value0-F Value0} (result : Result T E) (old new : List Head) → v ≡ form → out-Value0 form ≡ f →
      OnOk result (AddsHeads (ValueBefore f) old new) → OnOk result (AddsHeads (CanBefore g kinds k sets (Value v) after) old new)
  value_adds {v = v} {f = f} result old new is out = on_ok_weaker result (adds_as old new (λ h. (
    to_value v f (ap out-Value0 is ∙ out) h,
    λ (a, among, does). subst (λ f. ValueBefore f h) (ap out-Value0 is ∙ out) (from_value v a h among does),
  )))

  -- ---- elements

  abbrev pub ElementBefore : Element-F Element → List ℕ → Type 0
  ElementBefore (layer.Keyword text s) = KeywordBefore kinds k text after
  ElementBefore (layer.Call name s) = CallBefore g kinds k sets name after
  ElementBefore (layer.Assign p op v s) = CanBefore g kinds k sets (Value v) after
  ElementBefore (layer.Act act) = IsAmongHeads after
  ElementBefore (layer.Group es s) = RowCanBefore g kinds k sets es after
  ElementBefore (layer.Choice es s) = ChosenBefore g kinds k sets es after
  ElementBefore (layer.Maybe e s) = MaybeBefore g kinds k sets e after
  ElementBefore (layer.Many e s) = ManyCanBefore g kinds k sets e after
  ElementBefore (layer.Some1 e s) = OnceBefore g kinds k sets e after

  to_element : (e : Element) (f : Element-F Element) → out-Element e ≡ f → (h : List ℕ) → ElementBefore f h → CanBefore g kinds k sets (Body e) after h
  to_element e (layer.Keyword text s) is h (n, at, (a, among, same)) =
      (a, among, subst (can.Can g kinds k (IsInSet sets) (Body e) a) (sym same) (can.keyword n (read.element is) at))
  to_element e (layer.Call name s) is h before = called before
    where
      called : CallBefore g kinds k sets name after h → CanBefore g kinds k sets (Body e) after h
      called (inl (n, at, (a, among, same))) = (a, among, subst (can.Can g kinds k (IsInSet sets) (Body e) a) (sym same) (can.terminal n (read.element is) at))
      called (inr (r, rule, at, (front, has, (a, among, same)))) =
          (a, among, subst (can.Can g kinds k (IsInSet sets) (Body e) a) (sym same) (can.called (read.element is) at has))
  to_element e (layer.Assign p op v s) is h (a, among, does) = (a, among, can.assigned is does)
  to_element e (layer.Act act) is h among = (h, among, can.acted is)
  to_element e (layer.Group es s) is h (a, among, does) = (a, among, can.row is does)
  to_element e (layer.Choice es s) is h (f, has, (a, among, does)) = (a, among, can.chosen is has does)
  to_element e (layer.Maybe f s) is h before = optional before
    where
      optional : MaybeBefore g kinds k sets f after h → CanBefore g kinds k sets (Body e) after h
      optional (inl among) = (h, among, can.passes is)
      optional (inr (a, among, does)) = (a, among, can.enters is does)
  to_element e (layer.Many f s) is h (a, among, does) = (a, among, can.any is does)
  to_element e (layer.Some1 f s) is h (b, (a, among, many), does) = (a, among, can.some is many does)

  from_element : (e : Element) (a h : List ℕ) → IsAmongHeads after a → can.Can g kinds k (IsInSet sets) (Body e) a h → ElementBefore (out-Element e) h
  from_element e a h among (can.keyword n (read.element is) at) = subst (λ f. ElementBefore f h) (sym is) (n, at, (a, among, refl))
  from_element e a h among (can.terminal n (read.element is) at) = subst (λ f. ElementBefore f h) (sym is) (inl (n, at, (a, among, refl)))
  from_element e a h among (can.called {r} {rule} {h = front} (read.element is) at holds) =
      subst (λ f. ElementBefore f h) (sym is) (inr (r, rule, at, (front, holds, (a, among, refl))))
  from_element e a h among (can.assigned is does) = subst (λ f. ElementBefore f h) (sym is) (a, among, does)
  from_element e a h among (can.acted is) = subst (λ f. ElementBefore f h) (sym is) among
  from_element e a h among (can.row is does) = subst (λ f. ElementBefore f h) (sym is) (a, among, does)
  from_element e a h among (can.chosen {f = part} is has does) = subst (λ f. ElementBefore f h) (sym is) (part, has, (a, among, does))
  from_element e a h among (can.passes is) = subst (λ f. ElementBefore f h) (sym is) (inl among)
  from_element e a h among (can.enters is does) = subst (λ f. ElementBefore f h) (sym is) (inr (a, among, does))
  from_element e a h among (can.any is does) = subst (λ f. ElementBefore f h) (sym is) (a, among, does)
  from_element e a h among (can.some {b} is many does) = subst (λ f. ElementBefore f h) (sym is) (b, (a, among, many), does)

  -- where it is found what may come where an element of this form stands, it is found for the element
  pub element_adds : {T E : Type 0} {e form : Element} {f : Element-F Element} (result : Result T E) (old new : List Head) → e ≡ form → out-Element form ≡ f →
      OnOk result (AddsHeads (ElementBefore f) old new) → OnOk result (AddsHeads (CanBefore g kinds k sets (Body e) after) old new)
  element_adds {e = e} {f = f} result old new is out = on_ok_weaker result (adds_as old new (λ h. (
    to_element e f (ap out-Element is ∙ out) h,
    λ (a, among, does). subst (λ f. ElementBefore f h) (ap out-Element is ∙ out) (from_element e a h among does),
  )))
