-- A choice has no more ways than the grammar's size says.
use Rattle.std.proofs.Common.{◌≡◌, ℕ, zero, suc, ◌+◌, ◌≤◌, List, [], ◌∷◌, Some, length, map, slice_get, sum, refl, ap, arith}
use Rattle.std.proofs.lemmas.List.Sums.{get_or-le-sum_by, sum_by-cons}
use Rattle.std.proofs.lemmas.Option.{get_or_from_slice_get, slice_get_within}
use Rattle.lw_grammar.specs.declared.grammar.Grammar.{Grammar}
use Rattle.lw_grammar.specs.declared.rule.Element.{Element, out-Element}
use Rattle.lw_grammar.specs.declared.rule.Element.TheFolds.{map-Element}
use Rattle.lw_grammar.specs.declared.rule.Element.TheOpen as layer
use Rattle.lw_grammar.specs.declared.rule.Element.TheOpen.{Element-F}
use Rattle.lw_grammar.specs.declared.rule.Rule.{Rule}
use Rattle.lw_grammar.specs.declared.rule.Value0.{Value0, out-Value0}
use Rattle.lw_grammar.specs.declared.rule.Value0.TheFolds.{map-Value0}
use Rattle.lw_grammar.specs.declared.rule.Value0.TheOpen as value
use Rattle.lw_grammar.specs.declared.rule.Value0.TheOpen.{Value0-F}
use Rattle.lw_grammar.specs.Kinds.{Kinds}
use Rattle.lw_grammar.specs.Size.{element_size, layer_size, size, value_layer_size, value_size}
use Rattle.lw_grammar.proofs.LeafLemmas.{size_by, size_of_value}
use Rattle.lw_look.specs.Heads.{CanLook}
use Rattle.lw_look.specs.Heads as head
use Rattle.lw_look.specs.Sites.{AlternativeAt, Body, ElementAt, IsPartAt, Part, PartSite, Value, ValueAt, element_parts, inner_parts, value_parts}
use Rattle.lw_look.specs.Sites as site

abbrev part_size : Part → ℕ
part_size (Body e) = element_size e
part_size (Value v) = value_size v

-- one layer by the sizes of what it holds
abbrev size_in : Element-F Element → ℕ
size_in f = layer_size (map-Element Element ℕ element_size f)

abbrev value_size_in : Value0-F Value0 → ℕ
value_size_in f = value_layer_size (map-Value0 Value0 ℕ value_size f)

-- ---- what is inside is no larger

module _ {X : Type 0} (as_part : X → Part) (size_of : X → ℕ) (same : (x : X) → part_size (as_part x) ≡ size_of x) where
  in_sum : (xs : List X) (i : ℕ) (y : Part) → slice_get (map as_part xs) i ≡ Some y → part_size y ≤ sum (map size_of xs)
  in_sum [] i y at = cc
  in_sum (x ∷ xs) zero y at =
      let is : as_part x ≡ y = cc in
      omega (arith, ap part_size is, same x, sum_by-cons (λ n. n) (size_of x) (map size_of xs))
  in_sum (x ∷ xs) (suc i) y at = omega (arith, in_sum xs i y at, sum_by-cons (λ n. n) (size_of x) (map size_of xs))

  count_in_sum : ((x : X) → 1 ≤ size_of x) → (xs : List X) → length xs ≤ sum (map size_of xs)
  count_in_sum some [] = omega arith
  count_in_sum some (x ∷ xs) = omega (arith, some x, count_in_sum some xs, sum_by-cons (λ n. n) (size_of x) (map size_of xs))

only : (x y : Part) (i : ℕ) → slice_get (x ∷ []) i ≡ Some y → x ≡ y
only x y zero at = cc
only x y (suc i) at = cc

inside_layer : (f : Element-F Element) (i : ℕ) (y : Part) → slice_get (element_parts f) i ≡ Some y → part_size y ≤ size_in f
inside_layer (layer.Keyword text s) i y at = cc
inside_layer (layer.Call name s) i y at = cc
inside_layer (layer.Assign p op v s) i y at = omega (arith, ap part_size (only (Value v) y i at))
inside_layer (layer.Act a) i y at = cc
inside_layer (layer.Group es s) i y at = omega (arith, in_sum Body element_size (λ e. refl) es i y at)
inside_layer (layer.Choice es s) i y at = omega (arith, in_sum Body element_size (λ e. refl) es i y at)
inside_layer (layer.Maybe e s) i y at = omega (arith, ap part_size (only (Body e) y i at))
inside_layer (layer.Many e s) i y at = omega (arith, ap part_size (only (Body e) y i at))
inside_layer (layer.Some1 e s) i y at = omega (arith, ap part_size (only (Body e) y i at))

inside_value_layer : (f : Value0-F Value0) (i : ℕ) (y : Part) → slice_get (value_parts f) i ≡ Some y → part_size y ≤ value_size_in f
inside_value_layer (value.Keyword text s) i y at = cc
inside_value_layer (value.Call name s) i y at = cc
inside_value_layer (value.Cross wanted rule s) i y at = cc
inside_value_layer (value.Choice vs s) i y at = omega (arith, in_sum Value value_size (λ v. refl) vs i y at)

inside-le : (x : Part) (i : ℕ) (y : Part) → slice_get (inner_parts x) i ≡ Some y → part_size y ≤ part_size x
inside-le (Body e) i y at = omega (arith, inside_layer (out-Element e) i y at, size_by e (out-Element e) refl)
inside-le (Value v) i y at = omega (arith, inside_value_layer (out-Value0 v) i y at, size_of_value v (out-Value0 v) refl)

-- ---- each part counts

layer_some : (f : Element-F Element) → 1 ≤ size_in f
layer_some (layer.Keyword text s) = omega arith
layer_some (layer.Call name s) = omega arith
layer_some (layer.Assign p op v s) = omega arith
layer_some (layer.Act a) = omega arith
layer_some (layer.Group es s) = omega arith
layer_some (layer.Choice es s) = omega arith
layer_some (layer.Maybe e s) = omega arith
layer_some (layer.Many e s) = omega arith
layer_some (layer.Some1 e s) = omega arith

value_layer_some : (f : Value0-F Value0) → 1 ≤ value_size_in f
value_layer_some (value.Keyword text s) = omega arith
value_layer_some (value.Call name s) = omega arith
value_layer_some (value.Cross wanted rule s) = omega arith
value_layer_some (value.Choice vs s) = omega arith

element_some : (e : Element) → 1 ≤ element_size e
element_some e = omega (arith, layer_some (out-Element e), size_by e (out-Element e) refl)

value_some : (v : Value0) → 1 ≤ value_size v
value_some v = omega (arith, value_layer_some (out-Value0 v), size_of_value v (out-Value0 v) refl)

-- ---- in a grammar

module _ (g : Grammar) where
  stands-le : {s : PartSite} {x : Part} → IsPartAt g s x → part_size x ≤ size g
  stands-le (site.whole {r} {rule} at) =
      let rule_size = λ (rule : Rule). 1 + element_size rule.body in
      omega (arith, get_or-le-sum_by rule_size g.rules r rule (slice_get_within g.rules r rule at), ap rule_size (get_or_from_slice_get g.rules r rule rule at))
  stands-le (site.part {x} {y} {i} p at) = omega (arith, stands-le p, inside-le x i y at)

  choice-le : {s : PartSite} {f : Element-F Element} → ElementAt g s f → size_in f ≤ size g
  choice-le (site.element_at {e} p) = omega (arith, stands-le p, size_by e (out-Element e) refl)

  value_choice-le : {s : PartSite} {v : Value0} {f : Value0-F Value0} → ValueAt g s v f → value_size_in f ≤ size g
  value_choice-le (site.value_at {v} p) = omega (arith, stands-le p, size_of_value v (out-Value0 v) refl)

  alternative-le : {s : PartSite} {i : ℕ} {x : Part} → AlternativeAt g s i x → i + 1 ≤ size g
  alternative-le (site.element {i} {es} {e} at there) =
      omega (arith, choice-le at, count_in_sum Body element_size (λ e. refl) element_some es, slice_get_within es i e there)
  alternative-le (site.assigned {i} {w} {vs} at there) =
      omega (arith, value_choice-le at, count_in_sum Value value_size (λ v. refl) value_some vs, slice_get_within vs i w there)

  -- the ways that have heads are few
  pub few_ways : (kinds : Kinds) (k : ℕ) (Holds Afters : ℕ → List ℕ → Type 0) → size g ≤ 65535 → {s : PartSite} {way : ℕ} {h : List ℕ} →
      CanLook g kinds k Holds Afters s way h → way ≤ 65535
  few_ways kinds k Holds Afters small (head.alternative at can p) = omega (arith, alternative-le at)
  few_ways kinds k Holds Afters small (head.enters_ at can p) = omega arith
  few_ways kinds k Holds Afters small (head.passes_ at p) = omega arith
  few_ways kinds k Holds Afters small (head.reads_again at many can p) = omega arith
  few_ways kinds k Holds Afters small (head.leaves at p) = omega arith
