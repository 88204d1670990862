-- Where the leaves of a body stand, and the parts of it that are marked.
use Rattle.std.proofs.Common.{◌≡◌, ℕ, List, [], ◌∷◌, ◌++◌, Contains, map, ap, zero, suc, ◌+◌, arith, subst, sym, refl, ◌∙◌, inl, inr, ◌⊎◌}
use Rattle.std.specs.List.{flat_map}
use Rattle.std.proofs.lemmas.List.Elements.{All-contains}
use Rattle.lw_base.specs.declared.token.Span.{Span}
use Rattle.lw_grammar.specs.declared.rule.Element.{Element, out-Element}
use Rattle.lw_grammar.specs.declared.rule.Element.TheFolds.{map-Element, ind-Element, fold-roll-Element}
use Rattle.lw_grammar.specs.declared.rule.Element.TheOpen as layer
use Rattle.lw_grammar.specs.declared.rule.Element.TheOpen.{Element-F}
use Rattle.lw_grammar.specs.declared.rule.Value0.{Value0}
use Rattle.lw_grammar.specs.declared.rule.Value0.TheFolds.{map-Value0, ind-Value0, fold-roll-Value0}
use Rattle.lw_grammar.specs.declared.rule.Value0.TheOpen as value
use Rattle.lw_grammar.specs.declared.rule.Value0.TheOpen.{Value0-F}
use Rattle.lw_grammar.specs.Leaves.{Leaf, Keyword, Call, Assign, Act, leaves, layer_leaves, ValueLeaf, Literal, Calls, Cross, value_leaves, layer_values}
use Rattle.lw_gramread.specs.PlacesWithin.{value_spans, value_layer_spans, element_spans, layer_spans}
use Rattle.std.proofs.lemmas.List.{append-nil}
use Rattle.std.proofs.lemmas.List.Elements.{Contains-append_left, Contains-append_right, Contains-append_cases}
use Rattle.std.proofs.lemmas.List.Concat.{flat_map-append}
use Rattle.lw_grammar.specs.declared.terminal.TermElement.{TermElement}
use Rattle.lw_grammar.specs.declared.terminal.TermElement.TheFolds.{map-TermElement, ind-TermElement, fold-roll-TermElement}
use Rattle.lw_grammar.specs.declared.terminal.TermElement.TheOpen as term
use Rattle.lw_grammar.specs.declared.terminal.TermElement.TheOpen.{TermElement-F}
use Rattle.lw_grammar.specs.declared.rule.Element.{fold_out-Element}
use Rattle.lw_faults.specs.Derivations.{HasPart, itself, inside, HoldsDirectly, in_group, in_choice, in_maybe, in_many, in_some}
use Rattle.lw_grammar.specs.Written.{term_calls, term_layer_calls, term_ranges, term_layer_ranges, Range}
use Rattle.lw_gramread.specs.PlacesWithin.{term_spans, term_layer_spans}

-- ---- lists

module _ {X : Type 0} where
  pub at_front : (x : X) (xs : List X) → Contains (x ∷ xs) x
  at_front x xs = (0, omega arith, refl)

  pub behind_front : {x : X} (y : X) (xs : List X) → Contains xs x → Contains (y ∷ xs) x
  behind_front y xs (k, within, is) = (suc k, omega (arith, within), is)

  pub in_each : {Y : Type 0} (f : Y → List X) (ys : List Y) (y : Y) (x : X) → Contains ys y → Contains (f y) x → Contains (flat_map f ys) x
  in_each f [] y x (k, within, is) has = absurd (omega (arith, within))
  in_each f (z ∷ zs) y x (zero, within, is) has = Contains-append_left (f z) (flat_map f zs) x (subst (λ w. Contains (f w) x) (sym is) has)
  in_each f (z ∷ zs) y x (suc k, within, is) has = Contains-append_right (f z) (flat_map f zs) x (in_each f zs y x (k, omega (arith, within), is) has)

-- ---- values

abbrev value_leaf_spans : ValueLeaf → List Span
value_leaf_spans (Literal text s) = s ∷ []
value_leaf_spans (Calls name s) = s ∷ []
value_leaf_spans (Cross wanted rule s) = s ∷ []

abbrev ValueIn : Value0 → Type 0
ValueIn v = (s : Span) → Contains (flat_map value_leaf_spans (value_leaves v)) s → Contains (value_spans v) s

abbrev GoodValue : Type 0
GoodValue = (v : Value0) × ValueIn v

good_values : (vs : List GoodValue) (s : Span) → Contains (flat_map value_leaf_spans (flat_map (λ ls. ls) (map value_leaves (map (λ v. v.0) vs)))) s →
    Contains (flat_map (λ ss. ss) (map value_spans (map (λ v. v.0) vs))) s
good_values [] s has = has
good_values (v ∷ vs) s has =
    let more = flat_map (λ (ls : List ValueLeaf). ls) (map value_leaves (map (λ (v : GoodValue). v.0) vs)) in
    let spans = flat_map (λ (ss : List Span). ss) (map value_spans (map (λ (v : GoodValue). v.0) vs)) in
    elim (Contains-append_cases (flat_map value_leaf_spans (value_leaves v.0)) (flat_map value_leaf_spans more) s
    (subst (λ xs. Contains xs s) (flat_map-append value_leaf_spans (value_leaves v.0) more) has)) [
      | inl first ↦ Contains-append_left (value_spans v.0) spans s (v.1 s first)
      | inr others ↦ Contains-append_right (value_spans v.0) spans s (good_values vs s others)
    ]

value_layer_in : (y : Value0-F GoodValue) (s : Span) →
    Contains (flat_map value_leaf_spans (layer_values (map-Value0 Value0 (List ValueLeaf) value_leaves (map-Value0 GoodValue Value0 (λ v. v.0) y)))) s →
    Contains (value_layer_spans (map-Value0 Value0 (List Span) value_spans (map-Value0 GoodValue Value0 (λ v. v.0) y))) s
value_layer_in (value.Keyword text t) s has = has
value_layer_in (value.Call name t) s has = has
value_layer_in (value.Cross wanted rule t) s has = has
value_layer_in (value.Choice vs t) s has = behind_front t _ (good_values vs s has)

value_in : (v : Value0) → ValueIn v
value_in = ind-Value0 ValueIn (λ x y is s has.
    let spans = fold-roll-Value0 (List Span) value_layer_spans x in
    let leaves_are = fold-roll-Value0 (List ValueLeaf) layer_values x in
    let of_layer = subst (λ z. Contains (flat_map value_leaf_spans (layer_values (map-Value0 Value0 (List ValueLeaf) value_leaves z))) s → Contains (value_layer_spans (map-Value0 Value0 (List Span) value_spans z)) s) is (value_layer_in y s) in
    subst (λ ss. Contains ss s) (sym spans) (of_layer (subst (λ ls. Contains (flat_map value_leaf_spans ls) s) leaves_are has)))

-- a part of a value stands in it
pub value_stands : (v : Value0) (l : ValueLeaf) (s : Span) → Contains (value_leaves v) l → value_leaf_spans l ≡ s ∷ [] → Contains (value_spans v) s
value_stands v l s has is = value_in v s (in_each value_leaf_spans (value_leaves v) l s has (subst (λ ss. Contains ss s) (sym is) (at_front s [])))

-- ---- bodies

abbrev pub leaf_spans : Leaf → List Span
leaf_spans (Keyword text s) = s ∷ []
leaf_spans (Call name s) = s ∷ []
leaf_spans (Assign p op v s) = s ∷ value_spans v
leaf_spans (Act a) = a.span ∷ []

abbrev ElementIn : Element → Type 0
ElementIn e = (s : Span) → Contains (flat_map leaf_spans (leaves e)) s → Contains (element_spans e) s

abbrev GoodElement : Type 0
GoodElement = (e : Element) × ElementIn e

good_elements : (es : List GoodElement) (s : Span) → Contains (flat_map leaf_spans (flat_map (λ ls. ls) (map leaves (map (λ e. e.0) es)))) s →
    Contains (flat_map (λ ss. ss) (map element_spans (map (λ e. e.0) es))) s
good_elements [] s has = has
good_elements (e ∷ es) s has =
    let more = flat_map (λ (ls : List Leaf). ls) (map leaves (map (λ (e : GoodElement). e.0) es)) in
    let spans = flat_map (λ (ss : List Span). ss) (map element_spans (map (λ (e : GoodElement). e.0) es)) in
    elim (Contains-append_cases (flat_map leaf_spans (leaves e.0)) (flat_map leaf_spans more) s
    (subst (λ xs. Contains xs s) (flat_map-append leaf_spans (leaves e.0) more) has)) [
      | inl first ↦ Contains-append_left (element_spans e.0) spans s (e.1 s first)
      | inr others ↦ Contains-append_right (element_spans e.0) spans s (good_elements es s others)
    ]

element_layer_in : (y : Element-F GoodElement) (s : Span) →
    Contains (flat_map leaf_spans (layer_leaves (map-Element Element (List Leaf) leaves (map-Element GoodElement Element (λ e. e.0) y)))) s →
    Contains (layer_spans (map-Element Element (List Span) element_spans (map-Element GoodElement Element (λ e. e.0) y))) s
element_layer_in (layer.Keyword text t) s has = has
element_layer_in (layer.Call name t) s has = has
element_layer_in (layer.Assign p op v t) s has = subst (λ ss. Contains ss s) (append-nil (t ∷ value_spans v)) has
element_layer_in (layer.Act a) s has = has
element_layer_in (layer.Group es t) s has = behind_front t _ (good_elements es s has)
element_layer_in (layer.Choice es t) s has = behind_front t _ (good_elements es s has)
element_layer_in (layer.Maybe e t) s has = behind_front t _ (e.1 s has)
element_layer_in (layer.Many e t) s has = behind_front t _ (e.1 s has)
element_layer_in (layer.Some1 e t) s has = behind_front t _ (e.1 s has)

element_in : (e : Element) → ElementIn e
element_in = ind-Element ElementIn (λ x y is s has.
    let spans = fold-roll-Element (List Span) layer_spans x in
    let leaves_are = fold-roll-Element (List Leaf) layer_leaves x in
    let of_layer = subst (λ z. Contains (flat_map leaf_spans (layer_leaves (map-Element Element (List Leaf) leaves z))) s → Contains (layer_spans (map-Element Element (List Span) element_spans z)) s) is (element_layer_in y s) in
    subst (λ ss. Contains ss s) (sym spans) (of_layer (subst (λ ls. Contains (flat_map leaf_spans ls) s) leaves_are has)))

-- a leaf stands in its body
pub leaf_stands : (e : Element) (l : Leaf) (s : Span) → Contains (leaves e) l → Contains (leaf_spans l) s → Contains (element_spans e) s
leaf_stands e l s has is = element_in e s (in_each leaf_spans (leaves e) l s has is)

-- ---- parts at every depth

of_element : (e : Element) (f : Element-F Element) → out-Element e ≡ f → element_spans e ≡ layer_spans (map-Element Element (List Span) element_spans f)
of_element e f is = fold_out-Element (List Span) layer_spans e ∙ ap (λ f. layer_spans (map-Element Element (List Span) element_spans f)) is

mapped_in : (es : List Element) (e : Element) (s : Span) → Contains es e → Contains (element_spans e) s → Contains (flat_map (λ ss. ss) (map element_spans es)) s
mapped_in [] e s (k, within, is) has = absurd (omega (arith, within))
mapped_in (z ∷ zs) e s (zero, within, is) has =
    Contains-append_left (element_spans z) (flat_map (λ ss. ss) (map element_spans zs)) s (subst (λ w. Contains (element_spans w) s) (sym is) has)
mapped_in (z ∷ zs) e s (suc k, within, is) has =
    Contains-append_right (element_spans z) (flat_map (λ ss. ss) (map element_spans zs)) s (mapped_in zs e s (k, omega (arith, within), is) has)

directly_in : (f : Element-F Element) (part : Element) (s : Span) → HoldsDirectly f part → Contains (element_spans part) s →
    Contains (layer_spans (map-Element Element (List Span) element_spans f)) s
directly_in _ part s (in_group {es} in') has = behind_front _ _ (mapped_in es part s in' has)
directly_in _ part s (in_choice {es} in') has = behind_front _ _ (mapped_in es part s in' has)
directly_in _ part s in_maybe has = behind_front _ _ has
directly_in _ part s in_many has = behind_front _ _ has
directly_in _ part s in_some has = behind_front _ _ has

-- what stands in a part stands in the whole
pub part_stands : {e part : Element} (s : Span) → HasPart e part → Contains (element_spans part) s → Contains (element_spans e) s
part_stands s itself has = has
part_stands {e} s (inside {part = part} direct deeper) has =
    subst (λ ss. Contains ss s) (sym (of_element e (out-Element e) refl)) (directly_in (out-Element e) part s direct (part_stands s deeper has))

pub marked_stands : (e body : Element) (s : Span) → (out-Element e ≡ layer.Many body s) ⊎ (out-Element e ≡ layer.Some1 body s) → Contains (element_spans e) s
marked_stands e body s (inl is) = subst (λ ss. Contains ss s) (sym (of_element e (layer.Many body s) is)) (at_front s (element_spans body))
marked_stands e body s (inr is) = subst (λ ss. Contains ss s) (sym (of_element e (layer.Some1 body s) is)) (at_front s (element_spans body))

-- ---- terminals

abbrev call_spans : List ℕ × Span → List Span
call_spans call = call.1 ∷ []

abbrev range_spans : Range → List Span
range_spans range = range.2 ∷ []

abbrev TermIn : TermElement → Type 0
TermIn e = ((s : Span) → Contains (flat_map call_spans (term_calls e)) s → Contains (term_spans e) s)
    × ((s : Span) → Contains (flat_map range_spans (term_ranges e)) s → Contains (term_spans e) s)

abbrev GoodTerm : Type 0
GoodTerm = (e : TermElement) × TermIn e

module _ {A : Type 0} (f : A → List Span) (found : TermElement → List A) where
  good_terms : (es : List GoodTerm) → ((e : GoodTerm) (s : Span) → Contains (flat_map f (found e.0)) s → Contains (term_spans e.0) s) → (s : Span) →
      Contains (flat_map f (flat_map (λ ls. ls) (map found (map (λ e. e.0) es)))) s → Contains (flat_map (λ ss. ss) (map term_spans (map (λ e. e.0) es))) s
  good_terms [] sub s has = has
  good_terms (e ∷ es) sub s has =
      let more = flat_map (λ (ls : List A). ls) (map found (map (λ (e : GoodTerm). e.0) es)) in
      let spans = flat_map (λ (ss : List Span). ss) (map term_spans (map (λ (e : GoodTerm). e.0) es)) in
      elim (Contains-append_cases (flat_map f (found e.0)) (flat_map f more) s (subst (λ xs. Contains xs s) (flat_map-append f (found e.0) more) has)) [
        | inl first ↦ Contains-append_left (term_spans e.0) spans s (sub e s first)
        | inr others ↦ Contains-append_right (term_spans e.0) spans s (good_terms es sub s others)
      ]

calls_layer_in : (y : TermElement-F GoodTerm) (s : Span) →
    Contains (flat_map call_spans (term_layer_calls (map-TermElement TermElement (List (List ℕ × Span)) term_calls (map-TermElement GoodTerm TermElement (λ e. e.0) y)))) s →
    Contains (term_layer_spans (map-TermElement TermElement (List Span) term_spans (map-TermElement GoodTerm TermElement (λ e. e.0) y))) s
calls_layer_in (term.Literal text t) s has = behind_front t [] has
calls_layer_in (term.Range first last t) s has = behind_front t [] has
calls_layer_in (term.Pattern text t) s has = behind_front t [] has
calls_layer_in (term.Call name t) s has = has
calls_layer_in (term.Group es) s has = good_terms call_spans term_calls es (λ e. e.1.0) s has
calls_layer_in (term.Choice es) s has = good_terms call_spans term_calls es (λ e. e.1.0) s has
calls_layer_in (term.Maybe e) s has = e.1.0 s has
calls_layer_in (term.Many e) s has = e.1.0 s has
calls_layer_in (term.Some1 e) s has = e.1.0 s has

ranges_layer_in : (y : TermElement-F GoodTerm) (s : Span) →
    Contains (flat_map range_spans (term_layer_ranges (map-TermElement TermElement (List Range) term_ranges (map-TermElement GoodTerm TermElement (λ e. e.0) y)))) s →
    Contains (term_layer_spans (map-TermElement TermElement (List Span) term_spans (map-TermElement GoodTerm TermElement (λ e. e.0) y))) s
ranges_layer_in (term.Literal text t) s has = behind_front t [] has
ranges_layer_in (term.Range first last t) s has = has
ranges_layer_in (term.Pattern text t) s has = behind_front t [] has
ranges_layer_in (term.Call name t) s has = behind_front t [] has
ranges_layer_in (term.Group es) s has = good_terms range_spans term_ranges es (λ e. e.1.1) s has
ranges_layer_in (term.Choice es) s has = good_terms range_spans term_ranges es (λ e. e.1.1) s has
ranges_layer_in (term.Maybe e) s has = e.1.1 s has
ranges_layer_in (term.Many e) s has = e.1.1 s has
ranges_layer_in (term.Some1 e) s has = e.1.1 s has

term_in : (e : TermElement) → TermIn e
term_in = ind-TermElement TermIn (λ x y is.
    let spans = fold-roll-TermElement (List Span) term_layer_spans x in
    let calls_are = fold-roll-TermElement (List (List ℕ × Span)) term_layer_calls x in
    let ranges_are = fold-roll-TermElement (List Range) term_layer_ranges x in
    let of_calls = subst (λ z. (s : Span) → Contains (flat_map call_spans (term_layer_calls (map-TermElement TermElement (List (List ℕ × Span)) term_calls z))) s → Contains (term_layer_spans (map-TermElement TermElement (List Span) term_spans z)) s) is (calls_layer_in y) in
    let of_ranges = subst (λ z. (s : Span) → Contains (flat_map range_spans (term_layer_ranges (map-TermElement TermElement (List Range) term_ranges z))) s → Contains (term_layer_spans (map-TermElement TermElement (List Span) term_spans z)) s) is (ranges_layer_in y) in (
      (λ s has. subst (λ ss. Contains ss s) (sym spans) (of_calls s (subst (λ ls. Contains (flat_map call_spans ls) s) calls_are has))),
      (λ s has. subst (λ ss. Contains ss s) (sym spans) (of_ranges s (subst (λ ls. Contains (flat_map range_spans ls) s) ranges_are has))),
    ))

pub term_call_stands : (e : TermElement) (name : List ℕ) (s : Span) → Contains (term_calls e) (name, s) → Contains (term_spans e) s
term_call_stands e name s has = (term_in e).0 s (in_each call_spans (term_calls e) (name, s) s has (at_front s []))

pub term_range_stands : (e : TermElement) (first last : List ℕ) (s : Span) → Contains (term_ranges e) (first, last, s) → Contains (term_spans e) s
term_range_stands e first last s has = (term_in e).1 s (in_each range_spans (term_ranges e) (first, last, s) s has (at_front s []))
