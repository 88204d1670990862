-- The sites of values and of actions in each form of an element or a value, and in one part or one rule more.
use Rattle.std.proofs.Common.{◌≡◌, ℕ, zero, suc, ◌+◌, ◌++◌, List, [], ◌∷◌, Some, map, take, slice_get, refl, sym, ap, ◌∙◌, arith}
use Rattle.std.proofs.lemmas.List.{append-nil, append_assoc}
use Rattle.std.proofs.lemmas.Option.{none-some, same_Some}
use Rattle.lw_grammar.specs.declared.rule.Element.{Element, out-Element, fold_out-Element}
use Rattle.lw_grammar.specs.declared.rule.Element.TheFolds.{map-Element}
use Rattle.lw_grammar.specs.declared.rule.Element.TheOpen.{Element-F}
use Rattle.lw_grammar.specs.declared.rule.Rule.{Rule}
use Rattle.lw_grammar.specs.declared.rule.Value0.{Value0, out-Value0, fold_out-Value0}
use Rattle.lw_grammar.specs.declared.rule.Value0.TheFolds.{map-Value0}
use Rattle.lw_grammar.specs.declared.rule.Value0.TheOpen.{Value0-F}
use Rattle.lw_look.specs.Choices.{inside}
use Rattle.lw_look.specs.Sites.{PartSite, body, ◌▸◌}
use Rattle.lw_program.specs.Numbered.{element_puts, layer_puts, element_acts, layer_acts, value_puts, value_layer_puts, rule_puts, rule_acts}

pub puts_by : (e : Element) (f : Element-F Element) → out-Element e ≡ f → element_puts e ≡ layer_puts (map-Element Element (PartSite → List PartSite) element_puts f)
puts_by e f is =
    fold_out-Element (PartSite → List PartSite) layer_puts e
    ∙ ap (λ f. layer_puts (map-Element Element (PartSite → List PartSite) element_puts f)) is

pub acts_by : (e : Element) (f : Element-F Element) → out-Element e ≡ f → element_acts e ≡ layer_acts (map-Element Element (PartSite → List PartSite) element_acts f)
acts_by e f is =
    fold_out-Element (PartSite → List PartSite) layer_acts e
    ∙ ap (λ f. layer_acts (map-Element Element (PartSite → List PartSite) element_acts f)) is

pub value_puts_by : (v : Value0) (f : Value0-F Value0) → out-Value0 v ≡ f → value_puts v ≡ value_layer_puts (map-Value0 Value0 (PartSite → List PartSite) value_puts f)
value_puts_by v f is =
    fold_out-Value0 (PartSite → List PartSite) value_layer_puts v
    ∙ ap (λ f. value_layer_puts (map-Value0 Value0 (PartSite → List PartSite) value_puts f)) is

-- ---- one part or one rule more

abbrev row_sites : {X : Type 0} → (X → PartSite → List PartSite) → (ℕ → PartSite) → ℕ → List X → List PartSite
row_sites of at k [] = []
row_sites of at k (x ∷ xs) = of x (at k) ++ row_sites of at (k + 1) xs

module _ {X : Type 0} (of : X → PartSite → List PartSite) where
  row_next : (at : ℕ → PartSite) (k : ℕ) (xs : List X) (i : ℕ) (x : X) → slice_get xs i ≡ Some x →
      row_sites of at k (take (suc i) xs) ≡ row_sites of at k (take i xs) ++ of x (at (k + i))
  row_next at k [] i x is = absurd (none-some x is)
  row_next at k (y ∷ ys) zero x is =
      let here : k ≡ k + 0 = omega arith in
      append-nil (of y (at k)) ∙ ap (λ n. of y (at n)) here ∙ ap (λ y. of y (at (k + 0))) (same_Some y x is)
  row_next at k (y ∷ ys) (suc i) x is =
      let here : k + 1 + i ≡ k + suc i = omega arith in
      ap (λ sites. of y (at k) ++ sites) (row_next at (k + 1) ys i x is ∙ ap (λ n. row_sites of at (k + 1) (take i ys) ++ of x (at n)) here)
      ∙ sym (append_assoc (of y (at k)) (row_sites of at (k + 1) (take i ys)) (of x (at (k + suc i))))

  inside_row : (s : PartSite) (k : ℕ) (xs : List X) → inside s k (map of xs) ≡ row_sites of (λ n. s ▸ n) k xs
  inside_row s k [] = refl
  inside_row s k (x ∷ xs) = ap (λ sites. of x (s ▸ k) ++ sites) (inside_row s (k + 1) xs)

  pub inside_next : (s : PartSite) (xs : List X) (i : ℕ) (x : X) → slice_get xs i ≡ Some x →
      inside s 0 (map of (take (i + 1) xs)) ≡ inside s 0 (map of (take i xs)) ++ of x (s ▸ i)
  inside_next s xs i x is =
      let more : i + 1 ≡ suc i = omega arith in
      let here : 0 + i ≡ i = omega arith in
      ap (λ n. inside s 0 (map of (take n xs))) more ∙ inside_row s 0 (take (suc i) xs) ∙ row_next (λ n. s ▸ n) 0 xs i x is
      ∙ ap (λ sites. sites ++ of x (s ▸ (0 + i))) (sym (inside_row s 0 (take i xs))) ∙ ap (λ n. inside s 0 (map of (take i xs)) ++ of x (s ▸ n)) here

-- of a list of sites of rules that is gathered so
module _ (of : Rule → PartSite → List PartSite) (all : ℕ → List Rule → List PartSite) (none : (k : ℕ) → all k [] ≡ [])
    (more : (k : ℕ) (x : Rule) (xs : List Rule) → all k (x ∷ xs) ≡ of x (body k) ++ all (k + 1) xs) where
  rules_row : (k : ℕ) (xs : List Rule) → all k xs ≡ row_sites of body k xs
  rules_row k [] = none k
  rules_row k (x ∷ xs) = more k x xs ∙ ap (λ sites. of x (body k) ++ sites) (rules_row (k + 1) xs)

  rules_next : (xs : List Rule) (i : ℕ) (x : Rule) → slice_get xs i ≡ Some x → all 0 (take (i + 1) xs) ≡ all 0 (take i xs) ++ of x (body i)
  rules_next xs i x is =
      let next : i + 1 ≡ suc i = omega arith in
      let here : 0 + i ≡ i = omega arith in
      ap (λ n. all 0 (take n xs)) next ∙ rules_row 0 (take (suc i) xs) ∙ row_next of body 0 xs i x is
      ∙ ap (λ sites. sites ++ of x (body (0 + i))) (sym (rules_row 0 (take i xs))) ∙ ap (λ n. all 0 (take i xs) ++ of x (body n)) here

pub rule_puts_next : (rules : List Rule) (i : ℕ) (rule : Rule) → slice_get rules i ≡ Some rule →
    rule_puts 0 (take (i + 1) rules) ≡ rule_puts 0 (take i rules) ++ element_puts rule.body (body i)
rule_puts_next = rules_next (λ rule. element_puts rule.body) rule_puts (λ k. refl) (λ k x xs. refl)

pub rule_acts_next : (rules : List Rule) (i : ℕ) (rule : Rule) → slice_get rules i ≡ Some rule →
    rule_acts 0 (take (i + 1) rules) ≡ rule_acts 0 (take i rules) ++ element_acts rule.body (body i)
rule_acts_next = rules_next (λ rule. element_acts rule.body) rule_acts (λ k. refl) (λ k x xs. refl)
