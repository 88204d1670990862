-- A grammar has no more kinds than its size says.
use Rattle.std.proofs.Common.{◌≡◌, ℕ, ◌+◌, ◌≤◌, List, [], ◌∷◌, Some, slice_get, length, map, sum, sum_by, ap, subst, arith}
use Rattle.std.specs.List.{flat_map}
use Rattle.std.proofs.lemmas.List.{length-append, length-map}
use Rattle.std.proofs.lemmas.List.Concat.{flat_map-append}
use Rattle.std.proofs.lemmas.List.Sums.{sum_by-cons}
use Rattle.lw_grammar.specs.declared.grammar.Grammar.{Grammar}
use Rattle.lw_base.specs.declared.token.Span.{Span}
use Rattle.lw_grammar.specs.declared.rule.Element.{Element}
use Rattle.lw_grammar.specs.declared.rule.Element.TheFolds.{map-Element, ind-Element, fold-roll-Element}
use Rattle.lw_grammar.specs.declared.rule.Element.TheOpen as layer
use Rattle.lw_grammar.specs.declared.rule.Element.TheOpen.{Element-F}
use Rattle.lw_grammar.specs.declared.rule.Rule.{Rule}
use Rattle.lw_grammar.specs.declared.rule.Value0.{Value0}
use Rattle.lw_grammar.specs.declared.rule.Value0.TheFolds.{map-Value0, ind-Value0, fold-roll-Value0}
use Rattle.lw_grammar.specs.declared.rule.Value0.TheVariants as a_value
use Rattle.lw_grammar.specs.declared.rule.Value0.TheOpen as value
use Rattle.lw_grammar.specs.declared.rule.Value0.TheOpen.{Value0-F}
use Rattle.lw_grammar.specs.declared.terminal.Terminal.{Terminal}
use Rattle.lw_grammar.specs.Kept.{KeepsPassingFrom}
use Rattle.lw_grammar.specs.Kept as keep
use Rattle.lw_grammar.specs.Kinds.{Kinds, AreKinds, kind_count}
use Rattle.lw_grammar.specs.Leaves.{Leaf, leaves, layer_leaves, keywords_of, keywords_in, ValueLeaf, value_leaves, layer_values, literals_of}
use Rattle.lw_grammar.specs.Size.{size, element_size, layer_size, value_size, value_layer_size, term_size}
use Rattle.lw_kinds.specs.Rows.{KindRow, AreKindRowOf}
use Rattle.lw_kinds.specs.Uses.{Use}
use Rattle.lw_grammar.proofs.LeafLemmas.{size-Keyword, size-Call, size-Assign, size-Group, size-Pattern, size_of_value}
use Rattle.lw_numbers.proofs.Sizes.{first_uses-le, length-le-sum_by, found-le-sum_by}

-- ---- values

abbrev FewLiterals : Value0 → Type 0
FewLiterals v = length (flat_map literals_of (value_leaves v)) ≤ value_size v

abbrev FewValue : Type 0
FewValue = (v : Value0) × FewLiterals v

few_in_values : (parts : List FewValue) →
    length (flat_map literals_of (flat_map (λ ls. ls) (map value_leaves (map (λ p. p.0) parts)))) ≤ sum (map value_size (map (λ p. p.0) parts))
few_in_values [] = omega arith
few_in_values (part ∷ parts) =
    let here = value_leaves part.0 in
    let more = flat_map (λ (ls : List ValueLeaf). ls) (map value_leaves (map (λ (p : FewValue). p.0) parts)) in
    omega (
      arith,
      part.1,
      few_in_values parts,
      ap length (flat_map-append literals_of here more),
      length-append (flat_map literals_of here) (flat_map literals_of more),
      sum_by-cons (λ n. n) (value_size part.0) (map value_size (map (λ (p : FewValue). p.0) parts)),
    )

few_in_value_layer : (y : Value0-F FewValue) →
    length (flat_map literals_of (layer_values (map-Value0 Value0 (List ValueLeaf) value_leaves (map-Value0 FewValue Value0 (λ p. p.0) y))))
    ≤ value_layer_size (map-Value0 Value0 ℕ value_size (map-Value0 FewValue Value0 (λ p. p.0) y))
few_in_value_layer (value.Keyword text s) = omega arith
few_in_value_layer (value.Call name s) = omega arith
few_in_value_layer (value.Cross wanted rule s) = omega arith
few_in_value_layer (value.Choice parts s) = omega (arith, few_in_values parts)

literals-le : (v : Value0) → FewLiterals v
literals-le = ind-Value0 FewLiterals (λ x y is.
    let few = subst (λ z. length (flat_map literals_of (layer_values (map-Value0 Value0 (List ValueLeaf) value_leaves z))) ≤ value_layer_size (map-Value0 Value0 ℕ value_size z)) is (few_in_value_layer y) in
    omega (arith, ap (λ ls. length (flat_map literals_of ls)) (fold-roll-Value0 (List ValueLeaf) layer_values x), fold-roll-Value0 ℕ value_layer_size x, few))

-- ---- elements

abbrev FewKeywords : Element → Type 0
FewKeywords e = length (keywords_in e) ≤ element_size e

abbrev Few : Type 0
Few = (e : Element) × FewKeywords e

few_in_parts : (parts : List Few) →
    length (flat_map keywords_of (flat_map (λ ls. ls) (map leaves (map (λ p. p.0) parts)))) ≤ sum (map element_size (map (λ p. p.0) parts))
few_in_parts [] = omega arith
few_in_parts (part ∷ parts) =
    let here = leaves part.0 in
    let more = flat_map (λ (ls : List Leaf). ls) (map leaves (map (λ (p : Few). p.0) parts)) in
    omega (
      arith,
      part.1,
      few_in_parts parts,
      ap length (flat_map-append keywords_of here more),
      length-append (flat_map keywords_of here) (flat_map keywords_of more),
      sum_by-cons (λ n. n) (element_size part.0) (map element_size (map (λ (p : Few). p.0) parts)),
    )

few_in_layer : (y : Element-F Few) →
    length (flat_map keywords_of (layer_leaves (map-Element Element (List Leaf) leaves (map-Element Few Element (λ p. p.0) y))))
    ≤ layer_size (map-Element Element ℕ element_size (map-Element Few Element (λ p. p.0) y))
few_in_layer (layer.Keyword text s) = omega arith
few_in_layer (layer.Call name s) = omega arith
few_in_layer (layer.Assign p op v s) = omega (arith, literals-le v, length-append (flat_map literals_of (value_leaves v)) [])
few_in_layer (layer.Act a) = omega arith
few_in_layer (layer.Group parts s) = omega (arith, few_in_parts parts)
few_in_layer (layer.Choice parts s) = omega (arith, few_in_parts parts)
few_in_layer (layer.Maybe part s) = omega (arith, part.1)
few_in_layer (layer.Many part s) = omega (arith, part.1)
few_in_layer (layer.Some1 part s) = omega (arith, part.1)

keywords-le : (e : Element) → FewKeywords e
keywords-le = ind-Element FewKeywords (λ x y is.
    let few = subst (λ z. length (flat_map keywords_of (layer_leaves (map-Element Element (List Leaf) leaves z))) ≤ layer_size (map-Element Element ℕ element_size z)) is (few_in_layer y) in
    omega (arith, ap (λ ls. length (flat_map keywords_of ls)) (fold-roll-Element (List Leaf) layer_leaves x), fold-roll-Element ℕ layer_size x, few))

-- ---- grammars

module _ {X : Type 0} {passes : ℕ → Type 0} where
  kept-length : {i : ℕ} {xs ys : List X} → KeepsPassingFrom passes i xs ys → length ys ≤ length xs
  kept-length keep.nothing = omega arith
  kept-length (keep.kept p rest) = omega (arith, kept-length rest)
  kept-length (keep.left_out p rest) = omega (arith, kept-length rest)

  kept-sum : (f : X → ℕ) {i : ℕ} {xs ys : List X} → KeepsPassingFrom passes i xs ys → sum_by f ys ≤ sum_by f xs
  kept-sum f keep.nothing = omega arith
  kept-sum f (keep.kept {x} {xs} {ys} p rest) = omega (arith, kept-sum f rest, sum_by-cons f x xs, sum_by-cons f x ys)
  kept-sum f (keep.left_out {x} {xs} p rest) = omega (arith, kept-sum f rest, sum_by-cons f x xs)

abbrev rule_size : Rule → ℕ
rule_size rule = 1 + element_size rule.body

abbrev terminal_size : Terminal → ℕ
terminal_size terminal = 1 + term_size terminal.body

pub terminals-le : (g : Grammar) → length g.terminals ≤ size g
terminals-le g = omega (arith, length-le-sum_by terminal_size (λ t. omega arith) g.terminals)

kinds-le : (g : Grammar) (kinds : Kinds) → AreKinds g kinds → kind_count kinds ≤ size g
kinds-le g kinds are =
    let words = flat_map (λ (rule : Rule). keywords_in rule.body) are.rules in
    omega (
      arith,
      ap length are.keywords,
      first_uses-le [] words,
      found-le-sum_by (λ (rule : Rule). keywords_in rule.body) rule_size (λ rule. omega (arith, keywords-le rule.body)) are.rules,
      kept-sum rule_size are.reached,
      kept-length are.terminals,
      length-le-sum_by terminal_size (λ t. omega arith) g.terminals,
    )

pub row-le : (g : Grammar) (row : KindRow) → AreKindRowOf g row → length row.keywords + length row.terminals ≤ size g
row-le g row are =
    omega (
      arith,
      kinds-le g are.kinds are.are,
      length-map row.keywords (λ (word : Use). word.0),
      ap length are.texts,
      length-map row.terminals (slice_get g.terminals),
      ap length are.terminals,
      length-map are.kinds.terminals (λ (terminal : Terminal). Some terminal),
    )
