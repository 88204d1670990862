-- What stands behind the calls in a part, by its form.
use Rattle.std.proofs.Common.{◌≡◌, ℕ, ◌+◌, ◌↔◌, List, Option, Some, None, Contains, drop, slice_get, refl, sym, ap, ◌∙◌, subst}
use Rattle.std.proofs.lemmas.Option.{slice_get_within}
use Rattle.lw_base.specs.declared.token.Span.{Span}
use Rattle.lw_grammar.specs.declared.grammar.Grammar.{Grammar}
use Rattle.lw_grammar.specs.declared.rule.Element.{Element, out-Element}
use Rattle.lw_grammar.specs.declared.rule.Element.TheOpen as layer
use Rattle.lw_grammar.specs.declared.rule.Element.TheOpen.{Element-F}
use Rattle.lw_grammar.specs.declared.rule.Value0.{Value0, out-Value0}
use Rattle.lw_grammar.specs.declared.rule.Value0.TheOpen as value
use Rattle.lw_grammar.specs.declared.rule.Value0.TheOpen.{Value0-F}
use Rattle.lw_grammar.specs.Kinds.{Kinds}
use Rattle.lw_look.specs.Sites.{Body, Value}
use Rattle.lw_look.specs.ReadBy as read
use Rattle.lw_first.specs.declared.heads.head.Head.{Head}
use Rattle.lw_first.specs.Sets.{IsAmongHeads}
use Rattle.lw_first.specs.Before.{RowCanBefore, ManyCanBefore}
use Rattle.lw_kinds.specs.Crossing.{IsReadBy}
use Rattle.lw_first.specs.Followed.{AreBehind}
use Rattle.lw_first.specs.Calls.{BehindCall, BehindCalls, BehindName, BehindRowCalls}
use Rattle.lw_first.specs.Calls as call

module _ (g : Grammar) (kinds : Kinds) (k : ℕ) (heads : List (List Head)) (after : List Head) where
  -- behind those in a value of this form
  abbrev pub ValueBehind : Value0-F Value0 → ℕ → List ℕ → Type 0
  ValueBehind (value.Keyword text s) r h = ⊥
  ValueBehind (value.Call name s) r h = BehindName g name after r h
  ValueBehind (value.Cross wanted written s) r h = (name : List ℕ) × IsReadBy g wanted written name × BehindName g name after r h
  ValueBehind (value.Choice vs s) r h = (v : Value0) × Contains vs v × BehindCalls g kinds k heads (Value v) after r h

  -- behind those in an element of this form
  abbrev pub Behind : Element-F Element → ℕ → List ℕ → Type 0
  Behind (layer.Keyword text s) r h = ⊥
  Behind (layer.Call name s) r h = BehindName g name after r h
  Behind (layer.Assign p op v s) r h = BehindCalls g kinds k heads (Value v) after r h
  Behind (layer.Act a) r h = ⊥
  Behind (layer.Group es s) r h = (i : ℕ) × (part : Element) × (slice_get es i ≡ Some part) × (b : List ℕ) × RowCanBefore g kinds k heads (drop (i + 1) es) after b
      × BehindCall g kinds k heads (Body part) b r h
  Behind (layer.Choice es s) r h = (part : Element) × Contains es part × BehindCalls g kinds k heads (Body part) after r h
  Behind (layer.Maybe e s) r h = BehindCalls g kinds k heads (Body e) after r h
  Behind (layer.Many e s) r h = (b : List ℕ) × ManyCanBefore g kinds k heads e after b × BehindCall g kinds k heads (Body e) b r h
  Behind (layer.Some1 e s) r h = (b : List ℕ) × ManyCanBefore g kinds k heads e after b × BehindCall g kinds k heads (Body e) b r h

  value_to : {v : Value0} {a : List ℕ} {r : ℕ} {h : List ℕ} → IsAmongHeads after a → BehindCall g kinds k heads (Value v) a r h → ValueBehind (out-Value0 v) r h
  value_to {r} {h} among (call.called {rule} (read.value_ is) means) = subst (λ f. ValueBehind f r h) (sym is) (among, rule, means)
  value_to {r} {h} among (call.called {rule} (read.crosses is) means) = subst (λ f. ValueBehind f r h) (sym is) (_, refl, (among, rule, means))
  value_to {r} {h} among (call.called {rule} (read.crosses_by_name is at) means) = subst (λ f. ValueBehind f r h) (sym is) (_, at, (among, rule, means))
  value_to {a} {r} {h} among (call.chosen_value {w} is has does) = subst (λ f. ValueBehind f r h) (sym is) (w, has, (a, among, does))

  cross_from : {v : Value0} {r : ℕ} {h : List ℕ} (wanted : List ℕ) (written : Option (List ℕ)) {s : Span} → out-Value0 v ≡ value.Cross wanted written s →
      (name : List ℕ) → IsReadBy g wanted written name → BehindName g name after r h → BehindCalls g kinds k heads (Value v) after r h
  cross_from {h} wanted None out name at (among, rule, means) = (h, among, call.called (read.crosses_by_name out at) means)
  cross_from {v} {r} {h} wanted (Some written) {s} out name same (among, rule, means) =
      (h, among, call.called (read.crosses (subst (λ name. out-Value0 v ≡ value.Cross wanted (Some name) s) same out)) means)

  value_from : {v : Value0} {r : ℕ} {h : List ℕ} (f : Value0-F Value0) → out-Value0 v ≡ f → ValueBehind f r h → BehindCalls g kinds k heads (Value v) after r h
  value_from (value.Keyword text s) out none = absurd none
  value_from {h} (value.Call name s) out (among, rule, means) = (h, among, call.called (read.value_ out) means)
  value_from (value.Cross wanted written s) out (name, at, behind) = cross_from wanted written out name at behind
  value_from (value.Choice vs s) out (v, has, (a, among, does)) = (a, among, call.chosen_value out has does)

  pub value_behind_by : {v form : Value0} {f : Value0-F Value0} → v ≡ form → out-Value0 form ≡ f → (r : ℕ) (h : List ℕ) →
      ValueBehind f r h ↔ BehindCalls g kinds k heads (Value v) after r h
  value_behind_by {v} {f} is out r h =
      let layers : out-Value0 v ≡ f = ap out-Value0 is ∙ out in
      (λ behind. value_from f layers behind, λ (a, among, does). subst (λ f. ValueBehind f r h) layers (value_to among does))

  element_to : {e : Element} {a : List ℕ} {r : ℕ} {h : List ℕ} → IsAmongHeads after a → BehindCall g kinds k heads (Body e) a r h → Behind (out-Element e) r h
  element_to {r} {h} among (call.called {rule} (read.element is) means) = subst (λ f. Behind f r h) (sym is) (among, rule, means)
  element_to {a} {r} {h} among (call.assigned is does) = subst (λ f. Behind f r h) (sym is) (a, among, does)
  element_to {a} {r} {h} among (call.in_row {f = part} {b} i is at can does) = subst (λ f. Behind f r h) (sym is) (i, part, at, b, (a, among, can), does)
  element_to {a} {r} {h} among (call.chosen {f = part} is has does) = subst (λ f. Behind f r h) (sym is) (part, has, (a, among, does))
  element_to {a} {r} {h} among (call.optional is does) = subst (λ f. Behind f r h) (sym is) (a, among, does)
  element_to {a} {r} {h} among (call.any {b} is can does) = subst (λ f. Behind f r h) (sym is) (b, (a, among, can), does)
  element_to {a} {r} {h} among (call.some {b} is can does) = subst (λ f. Behind f r h) (sym is) (b, (a, among, can), does)

  element_from : {e : Element} {r : ℕ} {h : List ℕ} (f : Element-F Element) → out-Element e ≡ f → Behind f r h → BehindCalls g kinds k heads (Body e) after r h
  element_from (layer.Keyword text s) out none = absurd none
  element_from {h} (layer.Call name s) out (among, rule, means) = (h, among, call.called (read.element out) means)
  element_from (layer.Assign p op v s) out (a, among, does) = (a, among, call.assigned out does)
  element_from (layer.Act act) out none = absurd none
  element_from (layer.Group es s) out (i, part, at, b, (a, among, can), does) = (a, among, call.in_row i out at can does)
  element_from (layer.Choice es s) out (part, has, (a, among, does)) = (a, among, call.chosen out has does)
  element_from (layer.Maybe e s) out (a, among, does) = (a, among, call.optional out does)
  element_from (layer.Many e s) out (b, (a, among, can), does) = (a, among, call.any out can does)
  element_from (layer.Some1 e s) out (b, (a, among, can), does) = (a, among, call.some out can does)

  pub behind_by : {e form : Element} {f : Element-F Element} → e ≡ form → out-Element form ≡ f → (r : ℕ) (h : List ℕ) →
      Behind f r h ↔ BehindCalls g kinds k heads (Body e) after r h
  behind_by {e} {f} is out r h =
      let layers : out-Element e ≡ f = ap out-Element is ∙ out in
      (λ behind. element_from f layers behind, λ (a, among, does). subst (λ f. Behind f r h) layers (element_to among does))

  -- ---- by what was found behind the parts

  -- behind a part that is read any number of times
  pub by_repeated : (part : Element) (behind : List Head) → ((h : List ℕ) → IsAmongHeads behind h ↔ ManyCanBefore g kinds k heads part after h) → (r : ℕ) (h : List ℕ) →
      BehindCalls g kinds k heads (Body part) behind r h ↔ ((b : List ℕ) × ManyCanBefore g kinds k heads part after b × BehindCall g kinds k heads (Body part) b r h)
  by_repeated part behind are r h = (λ (b, among, does). (b, (are b).0 among, does), λ (b, can, does). (b, (are b).1 can, does))

  -- behind the parts of a row
  pub by_row : (es : List Element) (s : Span) (behind : List (List Head)) → AreBehind g kinds k heads es after behind → (r : ℕ) (h : List ℕ) →
      BehindRowCalls g kinds k heads es behind r h ↔ Behind (layer.Group es s) r h
  by_row es s behind are r h = (
    λ (i, part, at, b, has, does). (i, part, at, b, (are.each i b (slice_get_within es i part at)).0 has, does),
    λ (i, part, at, b, can, does). (i, part, at, b, (are.each i b (slice_get_within es i part at)).1 can, does),
  )
