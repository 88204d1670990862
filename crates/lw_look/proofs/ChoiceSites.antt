-- The sites of the choices of a grammar: all are listed, no others, and none twice.
use Rattle.std.proofs.Common.{◌≡◌, ℕ, zero, suc, ◌+◌, ◌≤◌, ◌⊎◌, inl, inr, List, [], ◌∷◌, ◌++◌, Some, Contains, map, slice_get, refl, sym, ap, ◌∙◌, subst, append-nil, arith}
use Rattle.std.proofs.lemmas.List.Elements.{Contains-append_left, Contains-append_right, Contains-append_cases}
use Rattle.std.proofs.lemmas.Option.{none-some, same_Some}
use Rattle.std.proofs.lemmas.Simd.{map-map}
use Rattle.lw_grammar.specs.declared.grammar.Grammar.{Grammar}
use Rattle.lw_grammar.specs.declared.rule.Element.{Element, out-Element, fold_out-Element}
use Rattle.lw_grammar.specs.declared.rule.Element.TheFolds.{map-Element}
use Rattle.lw_grammar.specs.declared.rule.Element.TheOpen as layer
use Rattle.lw_grammar.specs.declared.rule.Element.TheOpen.{Element-F}
use Rattle.lw_grammar.specs.declared.rule.Rule.{Rule}
use Rattle.lw_grammar.specs.declared.rule.Value0.{Value0, out-Value0, fold_out-Value0}
use Rattle.lw_grammar.specs.declared.rule.Value0.TheFolds.{map-Value0}
use Rattle.lw_grammar.specs.declared.rule.Value0.TheOpen as value
use Rattle.lw_grammar.specs.declared.rule.Value0.TheOpen.{Value0-F}
use Rattle.lw_look.specs.Sites.{PartSite, rule_of, body, ◌▸◌, Part, Body, Value, element_parts, value_parts, inner_parts, IsPartAt, ElementAt, ValueAt, AlternativeAt, OptionalAt, RepeatedAt}
use Rattle.lw_look.specs.Sites as site
use Rattle.lw_look.specs.Supplied.{ChoicesHaveParts}
use Rattle.lw_look.specs.Choices.{inside, value_choices, value_layer_choice_sites, element_choices, layer_choice_sites, rule_choices, choice_sites, IsChoice, alternatives, optional, repeated}
use Rattle.lw_look.proofs.ByParts.{by_all_parts}
use Rattle.lw_look.proofs.Paths.{LiesAt, lies_at_itself, lies_at_whole, not_at_part, one_part, lies_in_rule}
use Rattle.lw_base.proofs.Lists.{among}

none_there : (s : PartSite) → ¬ Contains [] s
none_there s (k, within, is) = omega arith

only_one : (s t : PartSite) → Contains (s ∷ []) t → s ≡ t
only_one s t (zero, within, is) = is
only_one s t (suc k, within, is) = absurd (omega arith)

-- ---- the choices in a part: it itself, and those in its parts

abbrev part_choices : Part → PartSite → List PartSite
part_choices (Body e) = element_choices e
part_choices (Value v) = value_choices v

abbrev layer_itself : Element-F Element → PartSite → List PartSite
layer_itself (layer.Choice es span) s = s ∷ []
layer_itself (layer.Maybe e span) s = s ∷ []
layer_itself (layer.Many e span) s = s ∷ []
layer_itself (layer.Some1 e span) s = s ∷ []
layer_itself _ s = []

abbrev value_itself : Value0-F Value0 → PartSite → List PartSite
value_itself (value.Choice vs span) s = s ∷ []
value_itself _ s = []

abbrev itself : Part → PartSite → List PartSite
itself (Body e) = layer_itself (out-Element e)
itself (Value v) = value_itself (out-Value0 v)

abbrev below : PartSite → ℕ → List Part → List PartSite
below s i xs = inside s i (map part_choices xs)

split : (x : Part) (s : PartSite) → part_choices x s ≡ itself x s ++ below s 0 (inner_parts x)
split (Body e) s = ap (λ choices. choices s) (fold_out-Element (PartSite → List PartSite) layer_choice_sites e) ∙ by (out-Element e)
  where
    by : (f : Element-F Element) → layer_choice_sites (map-Element Element (PartSite → List PartSite) element_choices f) s ≡ layer_itself f s ++ below s 0 (element_parts f)
    by (layer.Keyword text span) = refl
    by (layer.Call name span) = refl
    by (layer.Assign p op v span) = sym (append-nil (value_choices v (s ▸ 0)))
    by (layer.Act a) = refl
    by (layer.Group es span) = ap (inside s 0) (sym (map-map part_choices Body es))
    by (layer.Choice es span) = ap (λ parts. s ∷ inside s 0 parts) (sym (map-map part_choices Body es))
    by (layer.Maybe e span) = ap (λ sites. s ∷ sites) (sym (append-nil (element_choices e (s ▸ 0))))
    by (layer.Many e span) = ap (λ sites. s ∷ sites) (sym (append-nil (element_choices e (s ▸ 0))))
    by (layer.Some1 e span) = ap (λ sites. s ∷ sites) (sym (append-nil (element_choices e (s ▸ 0))))
split (Value v) s = ap (λ choices. choices s) (fold_out-Value0 (PartSite → List PartSite) value_layer_choice_sites v) ∙ by (out-Value0 v)
  where
    by : (f : Value0-F Value0) → value_layer_choice_sites (map-Value0 Value0 (PartSite → List PartSite) value_choices f) s ≡ value_itself f s ++ below s 0 (value_parts f)
    by (value.Keyword text span) = refl
    by (value.Call name span) = refl
    by (value.Cross wanted rule span) = refl
    by (value.Choice vs span) = ap (λ parts. s ∷ inside s 0 parts) (sym (map-map part_choices Value vs))

itself_cases : (x : Part) (s t : PartSite) → Contains (part_choices x s) t → Contains (itself x s) t ⊎ Contains (below s 0 (inner_parts x)) t
itself_cases x s t has = Contains-append_cases (itself x s) (below s 0 (inner_parts x)) t (subst (λ sites. Contains sites t) (split x s) has)

below_has : (s t : PartSite) (i n : ℕ) (xs : List Part) (y : Part) → slice_get xs n ≡ Some y → Contains (part_choices y (s ▸ (i + n))) t → Contains (below s i xs) t
below_has s t i n [] y at has = absurd (none-some y at)
below_has s t i zero (x ∷ xs) y at has =
    let same : i + 0 ≡ i = omega arith in
    Contains-append_left (part_choices x (s ▸ i)) (below s (i + 1) xs) t
    (subst (λ x. Contains (part_choices x (s ▸ i)) t) (sym (same_Some x y at)) (subst (λ n. Contains (part_choices y (s ▸ n)) t) same has))
below_has s t i (suc n) (x ∷ xs) y at has =
    let same : i + suc n ≡ i + 1 + n = omega arith in
    Contains-append_right (part_choices x (s ▸ i)) (below s (i + 1) xs) t
    (below_has s t (i + 1) n xs y at (subst (λ n. Contains (part_choices y (s ▸ n)) t) same has))

record Below (s t : PartSite) (i : ℕ) (xs : List Part) : Type 0 where
  place : ℕ
  part : Part
  at : slice_get xs place ≡ Some part
  has : Contains (part_choices part (s ▸ (i + place))) t

below_place : (s t : PartSite) (i : ℕ) (xs : List Part) → Contains (below s i xs) t → Below s t i xs
below_place s t i [] has = absurd (none_there t has)
below_place s t i (x ∷ xs) has = by (Contains-append_cases (part_choices x (s ▸ i)) (below s (i + 1) xs) t has) (below_place s t (i + 1) xs)
  where
    later : Below s t (i + 1) xs → Below s t i (x ∷ xs)
    later b =
        let same : i + 1 + b.place ≡ i + suc b.place = omega arith in
        record { place = suc b.place; part = b.part; at = b.at; has = subst (λ n. Contains (part_choices b.part (s ▸ n)) t) same b.has }

    by : Contains (part_choices x (s ▸ i)) t ⊎ Contains (below s (i + 1) xs) t → (Contains (below s (i + 1) xs) t → Below s t (i + 1) xs) → Below s t i (x ∷ xs)
    by (inl here) others =
        let same : i ≡ i + 0 = omega arith in
        record { place = 0; part = x; at = refl; has = subst (λ n. Contains (part_choices x (s ▸ n)) t) same here }
    by (inr there) others = later (others there)

-- ---- all are listed

rules_have : (t : PartSite) (q n : ℕ) (rules : List Rule) (rule : Rule) → slice_get rules n ≡ Some rule → Contains (element_choices rule.body (body (q + n))) t →
    Contains (rule_choices q rules) t
rules_have t q n [] rule at has = absurd (none-some rule at)
rules_have t q zero (x ∷ rules) rule at has =
    let same : q + 0 ≡ q = omega arith in
    Contains-append_left (element_choices x.body (body q)) (rule_choices (q + 1) rules) t
    (subst (λ x. Contains (element_choices x.body (body q)) t) (sym (same_Some x rule at)) (subst (λ q. Contains (element_choices rule.body (body q)) t) same has))
rules_have t q (suc n) (x ∷ rules) rule at has =
    let same : q + suc n ≡ q + 1 + n = omega arith in
    Contains-append_right (element_choices x.body (body q)) (rule_choices (q + 1) rules) t
    (rules_have t (q + 1) n rules rule at (subst (λ q. Contains (element_choices rule.body (body q)) t) same has))

module _ (g : Grammar) where
  listed : {s : PartSite} {x : Part} (t : PartSite) → IsPartAt g s x → Contains (part_choices x s) t → Contains (choice_sites g) t
  listed t (site.whole {r} {rule} is) has = rules_have t 0 r g.rules rule is (subst (λ r. Contains (element_choices rule.body (body r)) t) (omega arith) has)
  listed t (site.part {s} {x} {y} {i} at is) has =
      let same : i ≡ 0 + i = omega arith in
      listed t at
      (subst (λ sites. Contains sites t) (sym (split x s)) (Contains-append_right (itself x s) (below s 0 (inner_parts x)) t (below_has s t 0 i (inner_parts x) y is (subst (λ n. Contains (part_choices y (s ▸ n)) t) same has))))

  layer_listed : {s : PartSite} {f : Element-F Element} → ElementAt g s f → Contains (layer_itself f s) s → Contains (choice_sites g) s
  layer_listed {s} (site.element_at {e} at) has =
      listed s at (subst (λ sites. Contains sites s) (sym (split (Body e) s)) (Contains-append_left (itself (Body e) s) (below s 0 (inner_parts (Body e))) s has))

  value_listed : {s : PartSite} {v : Value0} {f : Value0-F Value0} → ValueAt g s v f → Contains (value_itself f s) s → Contains (choice_sites g) s
  value_listed {s} (site.value_at {v} at) has =
      listed s at (subst (λ sites. Contains sites s) (sym (split (Value v) s)) (Contains-append_left (itself (Value v) s) (below s 0 (inner_parts (Value v))) s has))

  one : (s : PartSite) → Contains (s ∷ []) s
  one s = (0, omega arith, refl)

  pub all_listed : (s : PartSite) → IsChoice g s → Contains (choice_sites g) s
  all_listed s (alternatives i x (site.element at is)) = layer_listed at (one s)
  all_listed s (alternatives i x (site.assigned at is)) = value_listed at (one s)
  all_listed s (optional e (site.optional at)) = layer_listed at (one s)
  all_listed s (repeated e (site.any at)) = layer_listed at (one s)
  all_listed s (repeated e (site.some at)) = layer_listed at (one s)

  -- ---- no others

  module _ (have : ChoicesHaveParts g) where
    itself_is : (x : Part) (s t : PartSite) → IsPartAt g s x → Contains (itself x s) t → IsChoice g t
    itself_is (Body e) s t at has = by (out-Element e) refl has
      where
        none : Contains [] t → IsChoice g t
        none has = absurd (none_there t has)

        by : (f : Element-F Element) → out-Element e ≡ f → Contains (layer_itself f s) t → IsChoice g t
        by (layer.Choice es span) is has =
            let (f, there) = have.choice s e es span at is in
            subst (IsChoice g) (only_one s t has) (alternatives 0 (Body f) (site.element (subst (ElementAt g s) is (site.element_at at)) there))
        by (layer.Maybe f span) is has = subst (IsChoice g) (only_one s t has) (optional f (site.optional (subst (ElementAt g s) is (site.element_at at))))
        by (layer.Many f span) is has = subst (IsChoice g) (only_one s t has) (repeated f (site.any (subst (ElementAt g s) is (site.element_at at))))
        by (layer.Some1 f span) is has = subst (IsChoice g) (only_one s t has) (repeated f (site.some (subst (ElementAt g s) is (site.element_at at))))
        by (layer.Keyword text span) is has = none has
        by (layer.Call name span) is has = none has
        by (layer.Assign p op v span) is has = none has
        by (layer.Act a) is has = none has
        by (layer.Group es span) is has = none has
    itself_is (Value v) s t at has = by (out-Value0 v) refl has
      where
        none : Contains [] t → IsChoice g t
        none has = absurd (none_there t has)

        by : (f : Value0-F Value0) → out-Value0 v ≡ f → Contains (value_itself f s) t → IsChoice g t
        by (value.Choice vs span) is has =
            let (w, there) = have.value_choice s v vs span at is in
            subst (IsChoice g) (only_one s t has) (alternatives 0 (Value w) (site.assigned (subst (ValueAt g s v) is (site.value_at at)) there))
        by (value.Keyword text span) is has = none has
        by (value.Call name span) is has = none has
        by (value.Cross wanted rule span) is has = none has

    abbrev HasChoices : Part → Type 0
    HasChoices x = (s t : PartSite) → IsPartAt g s x → Contains (part_choices x s) t → IsChoice g t

    has_choices : (x : Part) → HasChoices x
    has_choices = by_all_parts HasChoices (λ x each s t at has. by x each s t at (itself_cases x s t has))
      where
        by : (x : Part) → ((i : ℕ) (y : Part) → slice_get (inner_parts x) i ≡ Some y → HasChoices y) → (s t : PartSite) → IsPartAt g s x →
            Contains (itself x s) t ⊎ Contains (below s 0 (inner_parts x)) t → IsChoice g t
        by x each s t at (inl here) = itself_is x s t at here
        by x each s t at (inr there) =
            let b = below_place s t 0 (inner_parts x) there in
            let same : 0 + b.place ≡ b.place = omega arith in
            each b.place b.part b.at (s ▸ b.place) t (site.part at b.at) (subst (λ n. Contains (part_choices b.part (s ▸ n)) t) same b.has)

    rules_choices : (t : PartSite) (q : ℕ) (rules : List Rule) → ((n : ℕ) (rule : Rule) → slice_get rules n ≡ Some rule → slice_get g.rules (q + n) ≡ Some rule) →
        Contains (rule_choices q rules) t → IsChoice g t
    rules_choices t q [] are has = absurd (none_there t has)
    rules_choices t q (rule ∷ rules) are has =
        by (Contains-append_cases (element_choices rule.body (body q)) (rule_choices (q + 1) rules) t has)
        (rules_choices t (q + 1) rules (λ n other at. let same : q + suc n ≡ q + 1 + n = omega arith in subst (λ n. slice_get g.rules n ≡ Some other) same (are (suc n) other at)))
      where
        by : Contains (element_choices rule.body (body q)) t ⊎ Contains (rule_choices (q + 1) rules) t → (Contains (rule_choices (q + 1) rules) t → IsChoice g t) → IsChoice g t
        by (inl here) others =
            let same : q + 0 ≡ q = omega arith in
            has_choices (Body rule.body) (body q) t (site.whole (subst (λ q. slice_get g.rules q ≡ Some rule) same (are 0 rule refl))) here
        by (inr there) others = others there

    pub no_others_listed : (s : PartSite) → Contains (choice_sites g) s → IsChoice g s
    no_others_listed s has = rules_choices s 0 g.rules (λ n rule at. let same : n ≡ 0 + n = omega arith in subst (λ n. slice_get g.rules n ≡ Some rule) same at) has

-- ---- none twice

abbrev AreOnce : List PartSite → Type 0
AreOnce [] = Unit {0}
AreOnce (s ∷ sites) = (¬ Contains sites s) × AreOnce sites

once_append : (xs ys : List PartSite) → AreOnce xs → AreOnce ys → ((t : PartSite) → Contains xs t → Contains ys t → ⊥) → AreOnce (xs ++ ys)
once_append [] ys once others apart = others
once_append (x ∷ xs) ys once others apart = (
  λ has. by (Contains-append_cases xs ys x has),
  once_append xs ys once.1 others (λ t has other. apart t (Contains-append_right (x ∷ []) xs t has) other),
)
  where
    by : Contains xs x ⊎ Contains ys x → ⊥
    by (inl has) = once.0 has
    by (inr other) = apart x (0, omega arith, refl) other

once_places : (sites : List PartSite) → AreOnce sites → (i j : ℕ) (s : PartSite) → slice_get sites i ≡ Some s → slice_get sites j ≡ Some s → i ≡ j
once_places [] once i j s at_i at_j = absurd (none-some s at_i)
once_places (x ∷ sites) once zero zero s at_i at_j = refl
once_places (x ∷ sites) once zero (suc j) s at_i at_j = absurd (once.0 (subst (Contains sites) (sym (same_Some x s at_i)) (among sites j s at_j)))
once_places (x ∷ sites) once (suc i) zero s at_i at_j = absurd (once.0 (subst (Contains sites) (sym (same_Some x s at_j)) (among sites i s at_i)))
once_places (x ∷ sites) once (suc i) (suc j) s at_i at_j = ap suc (once_places sites once.1 i j s at_i at_j)

-- the choices in a part lie where it stands, and none is listed twice
record LieOnce (x : Part) (s : PartSite) : Type 0 where
  lie : (t : PartSite) → Contains (part_choices x s) t → LiesAt s t
  once : AreOnce (part_choices x s)

below_once : (s : PartSite) (i : ℕ) (xs : List Part) → ((n : ℕ) (y : Part) → slice_get xs n ≡ Some y → (s : PartSite) → LieOnce y s) → AreOnce (below s i xs)
below_once s i [] each = tt
below_once s i (x ∷ xs) each =
    once_append (part_choices x (s ▸ i)) (below s (i + 1) xs) (each 0 x refl (s ▸ i)).once (below_once s (i + 1) xs (λ n y at. each (suc n) y at)) (λ t here there.
    let b = below_place s t (i + 1) xs there in
    let same = one_part s t i (i + 1 + b.place) ((each 0 x refl (s ▸ i)).lie t here) ((each (suc b.place) b.part b.at (s ▸ (i + 1 + b.place))).lie t b.has) in
    omega (arith, same))

-- at most this site
abbrev IsOnly : PartSite → List PartSite → Type 0
IsOnly s sites = AreOnce sites × ((t : PartSite) → Contains sites t → s ≡ t)

itself_once : (x : Part) (s : PartSite) → IsOnly s (itself x s)
itself_once x s = by x
  where
    one : IsOnly s (s ∷ [])
    one = ((none_there s, tt), only_one s)

    no_one : IsOnly s []
    no_one = (tt, λ t has. absurd (none_there t has))

    layered : (f : Element-F Element) → IsOnly s (layer_itself f s)
    layered (layer.Choice es span) = one
    layered (layer.Maybe e span) = one
    layered (layer.Many e span) = one
    layered (layer.Some1 e span) = one
    layered (layer.Keyword text span) = no_one
    layered (layer.Call name span) = no_one
    layered (layer.Assign p op v span) = no_one
    layered (layer.Act a) = no_one
    layered (layer.Group es span) = no_one

    valued : (f : Value0-F Value0) → IsOnly s (value_itself f s)
    valued (value.Choice vs span) = one
    valued (value.Keyword text span) = no_one
    valued (value.Call name span) = no_one
    valued (value.Cross wanted rule span) = no_one

    by : (x : Part) → IsOnly s (itself x s)
    by (Body e) = layered (out-Element e)
    by (Value v) = valued (out-Value0 v)

lie_once : (x : Part) (s : PartSite) → LieOnce x s
lie_once = by_all_parts (λ x. (s : PartSite) → LieOnce x s) (λ x each s. record {
  lie = λ t has. lie x each s t (itself_cases x s t has);
  once = subst AreOnce (sym (split x s))
      (once_append (itself x s) (below s 0 (inner_parts x)) (itself_once x s).0 (below_once s 0 (inner_parts x) each) (λ t here there.
      let b = below_place s t 0 (inner_parts x) there in
      let same = (itself_once x s).1 t here in
      not_at_part s (0 + b.place) (subst (LiesAt (s ▸ (0 + b.place))) (sym same) ((each b.place b.part b.at (s ▸ (0 + b.place))).lie t b.has))));
})
  where
    lie : (x : Part) → ((i : ℕ) (y : Part) → slice_get (inner_parts x) i ≡ Some y → (s : PartSite) → LieOnce y s) → (s t : PartSite) →
        Contains (itself x s) t ⊎ Contains (below s 0 (inner_parts x)) t → LiesAt s t
    lie x each s t (inl here) = subst (LiesAt s) ((itself_once x s).1 t here) (lies_at_itself s)
    lie x each s t (inr there) =
        let b = below_place s t 0 (inner_parts x) there in lies_at_whole s t (0 + b.place) ((each b.place b.part b.at (s ▸ (0 + b.place))).lie t b.has)

rules_from : (t : PartSite) (q : ℕ) (rules : List Rule) → Contains (rule_choices q rules) t → q ≤ rule_of t
rules_from t q [] has = absurd (none_there t has)
rules_from t q (rule ∷ rules) has = by (Contains-append_cases (element_choices rule.body (body q)) (rule_choices (q + 1) rules) t has) (rules_from t (q + 1) rules)
  where
    by : Contains (element_choices rule.body (body q)) t ⊎ Contains (rule_choices (q + 1) rules) t → (Contains (rule_choices (q + 1) rules) t → q + 1 ≤ rule_of t) → q ≤ rule_of t
    by (inl here) others = omega (arith, lies_in_rule q t ((lie_once (Body rule.body) (body q)).lie t here))
    by (inr there) others = omega (arith, others there)

rules_once : (q : ℕ) (rules : List Rule) → AreOnce (rule_choices q rules)
rules_once q [] = tt
rules_once q (rule ∷ rules) =
    once_append (element_choices rule.body (body q)) (rule_choices (q + 1) rules) (lie_once (Body rule.body) (body q)).once (rules_once (q + 1) rules) (λ t here there.
    omega (arith, lies_in_rule q t ((lie_once (Body rule.body) (body q)).lie t here), rules_from t (q + 1) rules there))

pub listed_once : (g : Grammar) (i j : ℕ) (s : PartSite) → slice_get (choice_sites g) i ≡ Some s → slice_get (choice_sites g) j ≡ Some s → i ≡ j
listed_once g = once_places (choice_sites g) (rules_once 0 g.rules)
