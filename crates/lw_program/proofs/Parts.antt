-- What is numbered in each form of an element or a value, and the parts that stand inside.
use Rattle.std.proofs.Common.{◌≡◌, ℕ, ◌+◌, ◌<◌, zero, suc, List, [], ◌∷◌, ◌++◌, Some, map, length, slice_get, take, get_or, refl, sym, ap, ◌∙◌, subst, arith}
use Rattle.std.proofs.lemmas.List.{append-nil, length-take-le}
use Rattle.std.proofs.Math.Seq.{take-suc}
use Rattle.std.proofs.lemmas.Option.{none-some, same_Some}
use Rattle.lw_grammar.specs.declared.rule.Element.{Element, out-Element, fold_out-Element}
use Rattle.lw_grammar.specs.declared.rule.Element.TheFolds.{map-Element}
use Rattle.lw_grammar.specs.declared.rule.Element.TheOpen as layer
use Rattle.lw_grammar.specs.declared.rule.Element.TheOpen.{Element-F}
use Rattle.lw_grammar.specs.declared.rule.Op.{Op}
use Rattle.lw_grammar.specs.declared.rule.Value0.{Value0, out-Value0, fold_out-Value0}
use Rattle.lw_grammar.specs.declared.rule.Value0.TheFolds.{map-Value0}
use Rattle.lw_grammar.specs.declared.rule.Value0.TheOpen as value
use Rattle.lw_grammar.specs.declared.rule.Value0.TheOpen.{Value0-F}
use Rattle.lw_look.specs.Sites.{PartSite, ◌▸◌}
use Rattle.lw_look.specs.Choices.{inside, element_choices, layer_choice_sites, value_choices, value_layer_choice_sites}
use Rattle.lw_program.specs.declared.counts.Counts.{Counts}
use Rattle.lw_program.specs.Numbered.{element_puts, layer_puts, element_acts, layer_acts, value_puts, value_layer_puts}
use Rattle.lw_program.specs.Counting.{Sites, no_sites, joined_sites, choice_site, put_site, act_site, element_sites, value_sites, AreSitesCounted}
use Rattle.lw_program.specs.Filled.{Want, element_want, value_want, wants_from, all_sites}
use Rattle.lw_program.proofs.Counted.{same_sites, both_none, all_sites-append, counted_both}

-- the elements directly inside
abbrev pub inner_elements : Element-F Element → List Element
inner_elements (layer.Group es s) = es
inner_elements (layer.Choice es s) = es
inner_elements (layer.Maybe e s) = e ∷ []
inner_elements (layer.Many e s) = e ∷ []
inner_elements (layer.Some1 e s) = e ∷ []
inner_elements _ = []

-- what is numbered in an element of this form, but not in the elements inside
abbrev pub own_sites : PartSite → Element-F Element → Sites
own_sites s (layer.Assign p op v span) = value_sites (s ▸ 0) v
own_sites s (layer.Act a) = act_site s
own_sites s (layer.Choice es span) = choice_site s
own_sites s (layer.Maybe e span) = choice_site s
own_sites s (layer.Many e span) = choice_site s
own_sites s (layer.Some1 e span) = choice_site s
own_sites s _ = no_sites

abbrev pub form_sites : PartSite → Element-F Element → Sites
form_sites s f = joined_sites (own_sites s f) (all_sites (wants_from element_want s 0 (inner_elements f)))

choices_inside : (s : PartSite) (i : ℕ) (es : List Element) → inside s i (map element_choices es) ≡ (all_sites (wants_from element_want s i es)).choices
choices_inside s i [] = refl
choices_inside s i (e ∷ es) = ap (λ xs. element_choices e (s ▸ i) ++ xs) (choices_inside s (i + 1) es)

puts_inside : (s : PartSite) (i : ℕ) (es : List Element) → inside s i (map element_puts es) ≡ (all_sites (wants_from element_want s i es)).puts
puts_inside s i [] = refl
puts_inside s i (e ∷ es) = ap (λ xs. element_puts e (s ▸ i) ++ xs) (puts_inside s (i + 1) es)

acts_inside : (s : PartSite) (i : ℕ) (es : List Element) → inside s i (map element_acts es) ≡ (all_sites (wants_from element_want s i es)).acts
acts_inside s i [] = refl
acts_inside s i (e ∷ es) = ap (λ xs. element_acts e (s ▸ i) ++ xs) (acts_inside s (i + 1) es)

choices_of : (s : PartSite) (f : Element-F Element) → layer_choice_sites (map-Element Element (PartSite → List PartSite) element_choices f) s ≡ (form_sites s f).choices
choices_of s (layer.Keyword t span) = refl
choices_of s (layer.Call t span) = refl
choices_of s (layer.Assign p op v span) = sym (append-nil (value_choices v (s ▸ 0)))
choices_of s (layer.Act a) = refl
choices_of s (layer.Group es span) = choices_inside s 0 es
choices_of s (layer.Choice es span) = ap (λ xs. s ∷ xs) (choices_inside s 0 es)
choices_of s (layer.Maybe e span) = ap (λ xs. s ∷ xs) (sym (append-nil (element_choices e (s ▸ 0))))
choices_of s (layer.Many e span) = ap (λ xs. s ∷ xs) (sym (append-nil (element_choices e (s ▸ 0))))
choices_of s (layer.Some1 e span) = ap (λ xs. s ∷ xs) (sym (append-nil (element_choices e (s ▸ 0))))

puts_of : (s : PartSite) (f : Element-F Element) → layer_puts (map-Element Element (PartSite → List PartSite) element_puts f) s ≡ (form_sites s f).puts
puts_of s (layer.Keyword t span) = refl
puts_of s (layer.Call t span) = refl
puts_of s (layer.Assign p op v span) = sym (append-nil (value_puts v (s ▸ 0)))
puts_of s (layer.Act a) = refl
puts_of s (layer.Group es span) = puts_inside s 0 es
puts_of s (layer.Choice es span) = puts_inside s 0 es
puts_of s (layer.Maybe e span) = sym (append-nil (element_puts e (s ▸ 0)))
puts_of s (layer.Many e span) = sym (append-nil (element_puts e (s ▸ 0)))
puts_of s (layer.Some1 e span) = sym (append-nil (element_puts e (s ▸ 0)))

acts_of : (s : PartSite) (f : Element-F Element) → layer_acts (map-Element Element (PartSite → List PartSite) element_acts f) s ≡ (form_sites s f).acts
acts_of s (layer.Keyword t span) = refl
acts_of s (layer.Call t span) = refl
acts_of s (layer.Assign p op v span) = refl
acts_of s (layer.Act a) = refl
acts_of s (layer.Group es span) = acts_inside s 0 es
acts_of s (layer.Choice es span) = acts_inside s 0 es
acts_of s (layer.Maybe e span) = sym (append-nil (element_acts e (s ▸ 0)))
acts_of s (layer.Many e span) = sym (append-nil (element_acts e (s ▸ 0)))
acts_of s (layer.Some1 e span) = sym (append-nil (element_acts e (s ▸ 0)))

-- what is numbered in an element of this form
pub sites_of : (s : PartSite) (e : Element) (f : Element-F Element) → out-Element e ≡ f → element_sites s e ≡ form_sites s f
sites_of s e f is =
    same_sites (element_sites s e) (form_sites s (out-Element e))
    (ap (λ h. h s) (fold_out-Element (PartSite → List PartSite) layer_choice_sites e) ∙ choices_of s (out-Element e))
    (ap (λ h. h s) (fold_out-Element (PartSite → List PartSite) layer_puts e) ∙ puts_of s (out-Element e))
    (ap (λ h. h s) (fold_out-Element (PartSite → List PartSite) layer_acts e) ∙ acts_of s (out-Element e))
    ∙ ap (form_sites s) is

pub counted_form : (s : PartSite) (e : Element) (f : Element-F Element) {old new : Counts} → out-Element e ≡ f → AreSitesCounted (form_sites s f) old new →
    AreSitesCounted (element_sites s e) old new
counted_form s e f {old} {new} is = subst (λ sites. AreSitesCounted sites old new) (sym (sites_of s e f is))

-- of a value

value_choices_inside : (p : List ℕ) (op : Op) (s : PartSite) (i : ℕ) (vs : List Value0) →
    inside s i (map value_choices vs) ≡ (all_sites (wants_from (value_want p op) s i vs)).choices
value_choices_inside p op s i [] = refl
value_choices_inside p op s i (v ∷ vs) = ap (λ xs. value_choices v (s ▸ i) ++ xs) (value_choices_inside p op s (i + 1) vs)

value_puts_inside : (p : List ℕ) (op : Op) (s : PartSite) (i : ℕ) (vs : List Value0) →
    inside s i (map value_puts vs) ≡ (all_sites (wants_from (value_want p op) s i vs)).puts
value_puts_inside p op s i [] = refl
value_puts_inside p op s i (v ∷ vs) = ap (λ xs. value_puts v (s ▸ i) ++ xs) (value_puts_inside p op s (i + 1) vs)

no_acts : (p : List ℕ) (op : Op) (s : PartSite) (i : ℕ) (vs : List Value0) → [] ≡ (all_sites (wants_from (value_want p op) s i vs)).acts
no_acts p op s i [] = refl
no_acts p op s i (v ∷ vs) = no_acts p op s (i + 1) vs

abbrev pub value_form_sites : List ℕ → Op → PartSite → Value0-F Value0 → Sites
value_form_sites p op s (value.Choice vs span) = joined_sites (choice_site s) (all_sites (wants_from (value_want p op) s 0 vs))
value_form_sites p op s _ = put_site s

value_choices_of : (p : List ℕ) (op : Op) (s : PartSite) (f : Value0-F Value0) →
    value_layer_choice_sites (map-Value0 Value0 (PartSite → List PartSite) value_choices f) s ≡ (value_form_sites p op s f).choices
value_choices_of p op s (value.Keyword t span) = refl
value_choices_of p op s (value.Call t span) = refl
value_choices_of p op s (value.Cross t r span) = refl
value_choices_of p op s (value.Choice vs span) = ap (λ xs. s ∷ xs) (value_choices_inside p op s 0 vs)

value_puts_of : (p : List ℕ) (op : Op) (s : PartSite) (f : Value0-F Value0) →
    value_layer_puts (map-Value0 Value0 (PartSite → List PartSite) value_puts f) s ≡ (value_form_sites p op s f).puts
value_puts_of p op s (value.Keyword t span) = refl
value_puts_of p op s (value.Call t span) = refl
value_puts_of p op s (value.Cross t r span) = refl
value_puts_of p op s (value.Choice vs span) = value_puts_inside p op s 0 vs

value_acts_of : (p : List ℕ) (op : Op) (s : PartSite) (f : Value0-F Value0) → [] ≡ (value_form_sites p op s f).acts
value_acts_of p op s (value.Keyword t span) = refl
value_acts_of p op s (value.Call t span) = refl
value_acts_of p op s (value.Cross t r span) = refl
value_acts_of p op s (value.Choice vs span) = no_acts p op s 0 vs

-- what is numbered in a value of this form
pub value_sites_of : (p : List ℕ) (op : Op) (s : PartSite) (v : Value0) (f : Value0-F Value0) → out-Value0 v ≡ f → value_sites s v ≡ value_form_sites p op s f
value_sites_of p op s v f is =
    same_sites (value_sites s v) (value_form_sites p op s (out-Value0 v))
    (ap (λ h. h s) (fold_out-Value0 (PartSite → List PartSite) value_layer_choice_sites v) ∙ value_choices_of p op s (out-Value0 v))
    (ap (λ h. h s) (fold_out-Value0 (PartSite → List PartSite) value_layer_puts v) ∙ value_puts_of p op s (out-Value0 v))
    (value_acts_of p op s (out-Value0 v))
    ∙ ap (value_form_sites p op s) is

-- ---- the parts of a row

module _ {X : Type 0} (want : PartSite → X → Want) where
  pub want_at : (s : PartSite) (k : ℕ) (xs : List X) (i : ℕ) (w : Want) → slice_get (wants_from want s k xs) i ≡ Some w →
      (x : X) × (slice_get xs i ≡ Some x) × (w ≡ want (s ▸ (k + i)) x)
  want_at s k [] i w is = absurd (none-some w is)
  want_at s k (x ∷ xs) zero w is = let at : k ≡ k + 0 = omega arith in (x, refl, sym (same_Some _ _ is) ∙ ap (λ n. want (s ▸ n) x) at)
  want_at s k (x ∷ xs) (suc i) w is =
      let rest = want_at s (k + 1) xs i w is in
      let at : k + 1 + i ≡ k + suc i = omega arith in (rest.0, rest.1, rest.2 ∙ ap (λ n. want (s ▸ n) rest.0) at)

  pub want_of : (s : PartSite) (k : ℕ) (xs : List X) (i : ℕ) (x : X) → slice_get xs i ≡ Some x →
      slice_get (wants_from want s k xs) i ≡ Some (want (s ▸ (k + i)) x)
  want_of s k [] i x is = absurd (none-some x is)
  want_of s k (y ∷ xs) zero x is =
      let at : k ≡ k + 0 = omega arith in ap (λ n. Some (want (s ▸ n) y)) at ∙ ap (λ y. Some (want (s ▸ (k + 0)) y)) (same_Some y x is)
  want_of s k (y ∷ xs) (suc i) x is =
      let at : k + 1 + i ≡ k + suc i = omega arith in want_of s (k + 1) xs i x is ∙ ap (λ n. Some (want (s ▸ n) x)) at

  pub wants_length : (s : PartSite) (k : ℕ) (xs : List X) → length (wants_from want s k xs) ≡ length xs
  wants_length s k [] = refl
  wants_length s k (x ∷ xs) = ap suc (wants_length s (k + 1) xs)

  pub wants_last : (s : PartSite) (k : ℕ) (xs : List X) (x : X) →
      wants_from want s k (xs ++ x ∷ []) ≡ wants_from want s k xs ++ (want (s ▸ (k + length xs)) x ∷ [])
  wants_last s k [] x = let at : k ≡ k + 0 = omega arith in ap (λ n. want (s ▸ n) x ∷ []) at
  wants_last s k (y ∷ xs) x =
      let at : k + 1 + length xs ≡ k + suc (length xs) = omega arith in
      ap (λ ws. want (s ▸ k) y ∷ ws) (wants_last s (k + 1) xs x ∙ ap (λ n. wants_from want s (k + 1) xs ++ (want (s ▸ n) x ∷ [])) at)

  pub wants_next : (s : PartSite) (xs : List X) (i : ℕ) (x : X) → i < length xs → x ≡ get_or xs i x →
      wants_from want s 0 (take (i + 1) xs) ≡ wants_from want s 0 (take i xs) ++ (want (s ▸ i) x ∷ [])
  wants_next s xs i x inside is =
      let taken = length-take-le i xs (omega (arith, inside)) in
      let at : 0 + length (take i xs) ≡ i = omega (arith, taken) in
      let more : i + 1 ≡ suc i = omega arith in
      ap (λ n. wants_from want s 0 (take n xs)) more
      ∙ ap (wants_from want s 0) (take-suc xs i x inside ∙ ap (λ y. take i xs ++ (y ∷ [])) (sym is))
      ∙ wants_last s 0 (take i xs) x
      ∙ ap (λ n. wants_from want s 0 (take i xs) ++ (want (s ▸ n) x ∷ [])) at

  pub counted_next : (s : PartSite) (xs : List X) (i : ℕ) (x : X) {old mid new : Counts} → i < length xs → x ≡ get_or xs i x →
      AreSitesCounted (all_sites (wants_from want s 0 (take i xs))) old mid → AreSitesCounted (want (s ▸ i) x).sites mid new →
      AreSitesCounted (all_sites (wants_from want s 0 (take (i + 1) xs))) old new
  counted_next s xs i x {old} {mid} {new} inside is before here =
      subst (λ sites. AreSitesCounted sites old new)
      (ap (joined_sites (all_sites (wants_from want s 0 (take i xs)))) (sym (both_none (want (s ▸ i) x).sites))
      ∙ sym (all_sites-append (wants_from want s 0 (take i xs)) (want (s ▸ i) x ∷ [])) ∙ ap all_sites (sym (wants_next s xs i x inside is)))
      (counted_both before here)
