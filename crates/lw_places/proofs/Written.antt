-- The shapes of small trees that are written out, and what holds of shapes whatever the trees.
use Rattle.std.proofs.Common.{
  ◌≡◌,
  ◌<◌,
  ◌⊎◌,
  inl,
  inr,
  ◌==◌,
  ◌&&◌,
  ℕ,
  zero,
  suc,
  Bool,
  true,
  false,
  List,
  [],
  ◌∷◌,
  Option,
  Some,
  None,
  map,
  refl,
  sym,
  ap,
  ◌∙◌,
  arith,
}
use Rattle.std.specs.Prelude.{if◌then◌else◌}
use Rattle.lw_base.specs.declared.numbers.NodeId.{NodeId}
use Rattle.lw_base.specs.declared.numbers.PropId.{PropId}
use Rattle.lw_base.specs.declared.numbers.TypeId.{TypeId}
use Rattle.lw_grammar.specs.declared.grammar.Grammar.{Grammar}
use Rattle.lw_link_rules.specs.Worked.{twins}
use Rattle.lw_tree.specs.declared.node.Value.{Value}
use Rattle.lw_tree.specs.Parts.{Parts, values_at}
use Rattle.lw_places.specs.Shapes.{HaveSameShape, IsAlikeAt, IsFirstUnlike, ValueShape, shape_of_value}
use Rattle.lw_places.specs.Worked.{event_last, longer_twins}

-- ---- values without their texts

abbrev Row : Type 0
Row = NodeId × PropId × ValueShape

abbrev row_of : NodeId × PropId × Value → Row
row_of x = (x.0, x.1, shape_of_value x.2)

abbrev shapes_at : ℕ → ℕ → List Row → List ValueShape
shapes_at n p [] = []
shapes_at n p (x ∷ xs) = if (x.0.0 == n) && (x.1.0 == p) then x.2 ∷ shapes_at n p xs else shapes_at n p xs

shapes_of_values : (n p : ℕ) (values : List (NodeId × PropId × Value)) → map shape_of_value (values_at n p values) ≡ shapes_at n p (map row_of values)
shapes_of_values n p [] = refl
shapes_of_values n p (x ∷ xs) = by (shapes_of_values n p xs) ((x.0.0 == n) && (x.1.0 == p))
  where
    by : map shape_of_value (values_at n p xs) ≡ shapes_at n p (map row_of xs) → (b : Bool) →
        map shape_of_value (if b then x.2 ∷ values_at n p xs else values_at n p xs)
        ≡ (if b then shape_of_value x.2 ∷ shapes_at n p (map row_of xs) else shapes_at n p (map row_of xs))
    by rest true = ap (λ (ss : List ValueShape). shape_of_value x.2 ∷ ss) rest
    by rest false = rest

same_values : (values others : List (NodeId × PropId × Value)) → map row_of values ≡ map row_of others → (n p : ℕ) →
    map shape_of_value (values_at n p values) ≡ map shape_of_value (values_at n p others)
same_values values others same n p =
    shapes_of_values n p values ∙ ap (λ (rows : List Row). shapes_at n p rows) same ∙ sym (shapes_of_values n p others)

module _ (g : Grammar) where
  -- ---- trees that are written out

  pub longer : HaveSameShape g twins longer_twins
  longer n there = record {
    node = refl;
    children = refl;
    values = λ p low. same_values twins.values longer_twins.values refl n p;
    references = λ i. refl;
  }

  abbrev type_of : Option (TypeId × Option NodeId × Option PropId) → ℕ
  type_of None = 0
  type_of (Some as_what) = as_what.0.0

  before_event : (k : ℕ) → k < 2 → IsAlikeAt g twins event_last k
  before_event zero low = record {
    node = refl;
    children = refl;
    values = λ p under. same_values twins.values event_last.values refl 0 p;
    references = λ i. refl;
  }
  before_event (suc zero) low = record {
    node = refl;
    children = refl;
    values = λ p under. same_values twins.values event_last.values refl 1 p;
    references = λ i. refl;
  }
  before_event (suc (suc k)) low = absurd (omega (arith, low))

  two_and_one : ◌≡◌ {A = ℕ} 2 1 → ⊥
  two_and_one same = omega (arith, same)

  pub event_comes_last : IsFirstUnlike g twins event_last 2
  event_comes_last = record { there = inl (omega arith); unlike = λ alike. two_and_one (ap type_of alike.node); alike_before = before_event }

  -- ---- whatever the trees

  pub itself : (tree : Parts) → HaveSameShape g tree tree
  itself tree n there = record { node = refl; children = refl; values = λ p low. refl; references = λ i. refl }

  either : {A B : Type 0} → A ⊎ B → B ⊎ A
  either (inl a) = inr a
  either (inr b) = inl b

  pub turned_shape : (one other : Parts) → HaveSameShape g one other → HaveSameShape g other one
  turned_shape one other same n there =
      let alike = same n (either there) in
      record {
        node = sym alike.node;
        children = sym alike.children;
        values = λ p low. sym (alike.values p low);
        references = λ i. sym (alike.references i);
      }
