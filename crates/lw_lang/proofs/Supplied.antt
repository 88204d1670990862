-- A grammar without faults is supplied: what is not known of it would be a fault, and each choice has a part since the syntax of grammars writes
-- one.
use Rattle.std.proofs.Common.{◌≡◌, ◌<◌, ◌⊎◌, inl, inr, ℕ, zero, suc, List, [], ◌∷◌, ◌++◌, Option, Some, None, Contains, length, map, slice_get, refl, sym, ap, ◌∙◌, subst, append-nil, arith}
use Rattle.std.specs.Prelude.{MatchOption, bytes_eq}
use Rattle.std.specs.List.{flat_map, AllByRecursion}
use Rattle.std.specs.Map.{lookup}
use Rattle.std.proofs.lemmas.List.{length-map}
use Rattle.std.proofs.lemmas.Option.{none-some, same_Some, slice_get_within, get_or_from_slice_get}
use Rattle.std.proofs.lemmas.Simd.{map-map}
use Rattle.lw_grammar.specs.declared.grammar.Grammar.{Grammar}
use Rattle.lw_grammar.specs.declared.rule.Element.{Element, out-Element, fold_out-Element}
use Rattle.lw_grammar.specs.declared.rule.Element.TheFolds.{map-Element}
use Rattle.lw_grammar.specs.declared.rule.Element.TheOpen as layer
use Rattle.lw_grammar.specs.declared.rule.Element.TheOpen.{Element-F}
use Rattle.lw_grammar.specs.declared.rule.Value0.{Value0, out-Value0, fold_out-Value0}
use Rattle.lw_grammar.specs.declared.rule.Value0.TheFolds.{map-Value0}
use Rattle.lw_grammar.specs.declared.rule.Value0.TheOpen as value
use Rattle.lw_grammar.specs.declared.rule.Value0.TheOpen.{Value0-F}
use Rattle.lw_grammar.specs.Kinds.{Kinds, AreKinds}
use Rattle.lw_grammar.specs.NameRules.{IsNameRule}
use Rattle.lw_gramcheck.specs.Judging.{IsFaultless}
use Rattle.lw_load.specs.FilledChoices.{value_choice_sizes, value_layer_choice_sizes, element_choice_sizes, layer_choice_sizes, HasFilledChoices}
use Rattle.lw_look.specs.Sites.{PartSite, Part, Body, Value, element_parts, value_parts, inner_parts, IsPartAt}
use Rattle.lw_look.specs.Sites as site
use Rattle.lw_look.specs.Supplied.{ChoicesHaveParts, IsSupplied, ReadingIsTold}
use Rattle.lw_look.proofs.Known.{lacks_nothing}
use Rattle.lw_look.proofs.Supplying.{supplied}
use Rattle.lw_numbers.specs.NameTable.{AreNameRulesOf}
use Rattle.lw_kinds.specs.Reading.{RuleFlags, IsReadingOf}
use Rattle.lw_types.specs.Inferred.{AreTypesOf}
use Rattle.lw_types.specs.declared.types.Types.{Types}
use Rattle.lw_lang.specs.Facts.{AreReadingFactsOf}
use Rattle.lw_lang.specs.declared.facts.ReadingFacts.{ReadingFacts}
use Rattle.lw_lang.proofs.LookLemmas.{nodes_told}
use Rattle.lw_lang.proofs.ToldEnds.{ends_told}

-- ---- each of these sizes is that of a choice that has a part

abbrev AreFilled : List ℕ → Type 0
AreFilled sizes = AllByRecursion (λ n. 0 < n) sizes

none_empty : (sizes : List ℕ) → ¬ Contains sizes 0 → AreFilled sizes
none_empty [] none = tt
none_empty (zero ∷ sizes) none = absurd (none (0, omega arith, refl))
none_empty (suc n ∷ sizes) none = (omega arith, none_empty sizes (λ has. none (suc has.0, omega (arith, has.1), has.2)))

filled_parts : (xs ys : List ℕ) → AreFilled (xs ++ ys) → AreFilled xs × AreFilled ys
filled_parts [] ys h = (tt, h)
filled_parts (x ∷ xs) ys h = let parts = filled_parts xs ys h.1 in ((h.0, parts.0), parts.1)

module _ {X : Type 0} (sizes_in : X → List ℕ) where
  abbrev all_sizes : List X → List ℕ
  all_sizes xs = flat_map (λ sizes. sizes) (map sizes_in xs)

  filled_at : (xs : List X) → AreFilled (all_sizes xs) → (i : ℕ) (x : X) → slice_get xs i ≡ Some x → AreFilled (sizes_in x)
  filled_at [] h i x at = absurd (none-some x at)
  filled_at (y ∷ xs) h zero x at = subst (λ y. AreFilled (sizes_in y)) (same_Some y x at) (filled_parts (sizes_in y) (all_sizes xs) h).0
  filled_at (y ∷ xs) h (suc i) x at = filled_at xs (filled_parts (sizes_in y) (all_sizes xs) h).1 i x at

-- ---- the choices in a part of a rule

abbrev part_sizes : Part → List ℕ
part_sizes (Body e) = element_choice_sizes e
part_sizes (Value v) = value_choice_sizes v

element_sizes : (e : Element) (f : Element-F Element) → out-Element e ≡ f → AreFilled (element_choice_sizes e) →
    AreFilled (layer_choice_sizes (map-Element Element (List ℕ) element_choice_sizes f))
element_sizes e f is h =
    subst AreFilled (fold_out-Element (List ℕ) layer_choice_sizes e ∙ ap (λ f. layer_choice_sizes (map-Element Element (List ℕ) element_choice_sizes f)) is) h

value_sizes : (v : Value0) (f : Value0-F Value0) → out-Value0 v ≡ f → AreFilled (value_choice_sizes v) →
    AreFilled (value_layer_choice_sizes (map-Value0 Value0 (List ℕ) value_choice_sizes f))
value_sizes v f is h =
    subst AreFilled (fold_out-Value0 (List ℕ) value_layer_choice_sizes v ∙ ap (λ f. value_layer_choice_sizes (map-Value0 Value0 (List ℕ) value_choice_sizes f)) is) h

-- what is so of a list of parts is so of their list as parts of a rule
as_bodies : (es : List Element) → AreFilled (all_sizes element_choice_sizes es) → AreFilled (all_sizes part_sizes (map Body es))
as_bodies es h = subst (λ sizes. AreFilled (flat_map (λ sizes. sizes) sizes)) (sym (map-map part_sizes Body es)) h

as_values : (vs : List Value0) → AreFilled (all_sizes value_choice_sizes vs) → AreFilled (all_sizes part_sizes (map Value vs))
as_values vs h = subst (λ sizes. AreFilled (flat_map (λ sizes. sizes) sizes)) (sym (map-map part_sizes Value vs)) h

as_one : (sizes : List ℕ) → AreFilled sizes → AreFilled (sizes ++ [])
as_one sizes h = subst AreFilled (sym (append-nil sizes)) h

inner_filled : (x : Part) → AreFilled (part_sizes x) → AreFilled (all_sizes part_sizes (inner_parts x))
inner_filled (Body e) h = by (out-Element e) (element_sizes e (out-Element e) refl h)
  where
    by : (f : Element-F Element) → AreFilled (layer_choice_sizes (map-Element Element (List ℕ) element_choice_sizes f)) →
        AreFilled (all_sizes part_sizes (element_parts f))
    by (layer.Keyword text s) k = tt
    by (layer.Call name s) k = tt
    by (layer.Assign p op v s) k = as_one (value_choice_sizes v) k
    by (layer.Act a) k = tt
    by (layer.Group es s) k = as_bodies es k
    by (layer.Choice es s) k = as_bodies es k.1
    by (layer.Maybe e s) k = as_one (element_choice_sizes e) k
    by (layer.Many e s) k = as_one (element_choice_sizes e) k
    by (layer.Some1 e s) k = as_one (element_choice_sizes e) k
inner_filled (Value v) h = by (out-Value0 v) (value_sizes v (out-Value0 v) refl h)
  where
    by : (f : Value0-F Value0) → AreFilled (value_layer_choice_sizes (map-Value0 Value0 (List ℕ) value_choice_sizes f)) →
        AreFilled (all_sizes part_sizes (value_parts f))
    by (value.Keyword text s) k = tt
    by (value.Call name s) k = tt
    by (value.Cross wanted rule s) k = tt
    by (value.Choice vs s) k = as_values vs k.1

first : {X : Type 0} (xs : List X) → 0 < length xs → (x : X) × (slice_get xs 0 ≡ Some x)
first [] h = absurd (omega (arith, h))
first (x ∷ xs) h = (x, refl)

module _ (g : Grammar) where
  module _ (filled : HasFilledChoices g) where
    part_filled : {s : PartSite} {x : Part} → IsPartAt g s x → AreFilled (part_sizes x)
    part_filled (site.whole {r} {rule} is) =
        none_empty (element_choice_sizes rule.body) (filled rule (r, slice_get_within g.rules r rule is, get_or_from_slice_get g.rules r rule rule is))
    part_filled (site.part {s} {x} {y} {i} at is) = filled_at part_sizes (inner_parts x) (inner_filled x (part_filled at)) i y is

    choices_have_parts : ChoicesHaveParts g
    choices_have_parts = record {
      choice = λ s e es span at is.
          let some = (element_sizes e (layer.Choice es span) is (part_filled at)).0 in
          first es (omega (arith, some, length-map es element_choice_sizes));
      value_choice = λ s v vs span at is.
          let some = (value_sizes v (value.Choice vs span) is (part_filled at)).0 in
          first vs (omega (arith, some, length-map vs value_choice_sizes));
    }

  -- ---- what is known of cross-references that write no rule

  name_told : (entries : List (List ℕ × List ℕ)) → AreNameRulesOf g entries → (wanted : List ℕ) →
      ((name : List ℕ) × IsNameRule g wanted name) ⊎ ((name : List ℕ) → ¬ IsNameRule g wanted name)
  name_told entries are wanted = by (lookup (bytes_eq wanted) entries) (are wanted)
    where
      by : (found : Option (List ℕ)) → MatchOption found ((name : List ℕ) → ¬ IsNameRule g wanted name) (IsNameRule g wanted) →
          ((name : List ℕ) × IsNameRule g wanted name) ⊎ ((name : List ℕ) → ¬ IsNameRule g wanted name)
      by None none = inr none
      by (Some name) is = inl (name, is)

  reading_told : (types : Types) → AreTypesOf g types → (flags : RuleFlags) → IsReadingOf g flags → ReadingIsTold g
  reading_told types typed flags are = record { bodies = ends_told g flags are; names = name_told types.types.name_rules typed.types.name_rules }

  -- ---- a grammar without faults, as it is loaded and judged

  pub is_supplied : (types : Types) → AreTypesOf g types → (facts : ReadingFacts) → AreReadingFactsOf g facts → IsFaultless g → HasFilledChoices g →
      (kinds : Kinds) → AreKinds g kinds → IsSupplied g kinds
  is_supplied types typed facts are faultless filled kinds kinds_are =
      supplied g kinds kinds_are (nodes_told g types.rules.nodes.items typed.rules.nodes)
      (lacks_nothing g faultless.types faultless.checks (reading_told types typed facts.reading are.reading) (choices_have_parts filled))
