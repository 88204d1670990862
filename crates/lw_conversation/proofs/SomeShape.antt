-- Two trees have one shape, or there is a first node at which they differ.
use Rattle.std.proofs.Common.{◌≡◌, ◌<◌, ◌≤◌, ◌+◌, ℕ, zero, suc, List, [], ◌∷◌, Option, Some, None, length, map, option_map, option_and_then, slice_get, inl, inr, ◌⊎◌, refl, sym, ap, ◌∙◌, subst, arith}
use Rattle.std.specs.Prelude.{◌==◌, if◌then◌else◌}
use Rattle.std.proofs.lemmas.Bool.{cases_lt}
use Rattle.std.proofs.lemmas.Option.{same_Some, slice_get_within}
use Rattle.lw_base.specs.declared.numbers.NodeId.{NodeId}
use Rattle.lw_base.specs.declared.numbers.PropId.{PropId}
use Rattle.lw_base.specs.declared.numbers.RefId.{RefId}
use Rattle.lw_base.specs.declared.numbers.TypeId.{TypeId}
use Rattle.lw_grammar.specs.declared.grammar.Grammar.{Grammar}
use Rattle.lw_machine.proofs.Comparing.{same_number}
use Rattle.lw_machine.proofs.Finite.{Decided}
use Rattle.lw_numbers.specs.Numbering.{property_names}
use Rattle.lw_places.specs.Shapes.{HaveSameShape, IsAlikeAt, IsFirstUnlike, ValueShape, refers_as, shape_of_value, stands_as}
use Rattle.lw_places.specs.Shapes as shape
use Rattle.lw_tree.specs.declared.node.Reference.{Reference}
use Rattle.lw_tree.specs.Parts.{Parts, children_of, values_at}

-- ---- whether two values are one

abbrev pub Told : Type 0 → Type 0
Told A = (a b : A) → Decided (a ≡ b)

pub told_option : {A : Type 0} → Told A → Told (Option A)
told_option told None None = inl refl
told_option told None (Some b) = inr (λ same. let no = same in cc)
told_option told (Some a) None = inr (λ same. let no = same in cc)
told_option told (Some a) (Some b) = elim (told a b) [ inl is ↦ inl (ap Some is) | inr apart ↦ inr (λ same. apart (same_Some a b same)) ]

told_list : {A : Type 0} → Told A → Told (List A)
told_list told [] [] = inl refl
told_list told [] (b ∷ ys) = inr (λ same. let no = same in cc)
told_list told (a ∷ xs) [] = inr (λ same. let no = same in cc)
told_list told (a ∷ xs) (b ∷ ys) = by (told a b) (told_list told xs ys)
  where
    by : Decided (a ≡ b) → Decided (xs ≡ ys) → Decided (a ∷ xs ≡ b ∷ ys)
    by (inl is) (inl are) = inl (λ i. is i ∷ are i)
    by (inr apart) rest = inr (λ same. apart (let all = same in cc))
    by (inl is) (inr apart) = inr (λ same. apart (let all = same in cc))

pub told_pair : {A B : Type 0} → Told A → Told B → Told (A × B)
told_pair {A} {B} first second a b = by (first a.0 b.0) (second a.1 b.1)
  where
    by : Decided (a.0 ≡ b.0) → Decided (a.1 ≡ b.1) → Decided (a ≡ b)
    by (inl is) (inl also) = inl (λ i. (is i, also i))
    by (inr apart) rest = inr (λ same. apart (ap (λ (x : A × B). x.0) same))
    by (inl is) (inr apart) = inr (λ same. apart (ap (λ (x : A × B). x.1) same))

told_triple : {A B C : Type 0} → Told A → Told B → Told C → Told (A × B × C)
told_triple {A} {B} {C} first second third a b = by (first a.0 b.0) (second a.1 b.1) (third a.2 b.2)
  where
    by : Decided (a.0 ≡ b.0) → Decided (a.1 ≡ b.1) → Decided (a.2 ≡ b.2) → Decided (a ≡ b)
    by (inl is) (inl also) (inl too) = inl (λ i. (is i, also i, too i))
    by (inr apart) y z = inr (λ same. apart (ap (λ (x : A × B × C). x.0) same))
    by (inl is) (inr apart) z = inr (λ same. apart (ap (λ (x : A × B × C). x.1) same))
    by (inl is) (inl also) (inr apart) = inr (λ same. apart (ap (λ (x : A × B × C). x.2) same))

told_node : Told NodeId
told_node a b = elim (same_number a.0 b.0) [ inl is ↦ inl (λ i. record { 0 = is i }) | inr apart ↦ inr (λ same. apart (ap (λ (x : NodeId). x.0) same)) ]

told_prop : Told PropId
told_prop a b = elim (same_number a.0 b.0) [ inl is ↦ inl (λ i. record { 0 = is i }) | inr apart ↦ inr (λ same. apart (ap (λ (x : PropId). x.0) same)) ]

told_type : Told TypeId
told_type a b = elim (same_number a.0 b.0) [ inl is ↦ inl (λ i. record { 0 = is i }) | inr apart ↦ inr (λ same. apart (ap (λ (x : TypeId). x.0) same)) ]

told_ref : Told RefId
told_ref a b = elim (same_number a.0 b.0) [ inl is ↦ inl (λ i. record { 0 = is i }) | inr apart ↦ inr (λ same. apart (ap (λ (x : RefId). x.0) same)) ]

-- a kind of values by a number, and what stands in it
abbrev coded : ValueShape → ℕ × ℕ
coded shape.Text = (0, 0)
coded shape.Number = (1, 0)
coded shape.Huge = (2, 0)
coded shape.Raw = (3, 0)
coded shape.Truth = (4, 0)
coded (shape.Child n) = (5, n.0)
coded (shape.Refers r) = (6, r.0)

abbrev decoded : ℕ × ℕ → ValueShape
decoded (zero, n) = shape.Text
decoded (suc zero, n) = shape.Number
decoded (suc (suc zero), n) = shape.Huge
decoded (suc (suc (suc zero)), n) = shape.Raw
decoded (suc (suc (suc (suc zero))), n) = shape.Truth
decoded (suc (suc (suc (suc (suc zero)))), n) = shape.Child (record { 0 = n })
decoded (suc (suc (suc (suc (suc (suc k))))), n) = shape.Refers (record { 0 = n })

back : (v : ValueShape) → decoded (coded v) ≡ v
back shape.Text = refl
back shape.Number = refl
back shape.Huge = refl
back shape.Raw = refl
back shape.Truth = refl
back (shape.Child n) = refl
back (shape.Refers r) = refl

told_shape : Told ValueShape
told_shape a b = elim (told_pair same_number same_number (coded a) (coded b)) [
  | inl is ↦ inl (sym (back a) ∙ ap decoded is ∙ back b)
  | inr apart ↦ inr (λ same. apart (ap coded same))
]

-- ---- the first number at which something is not so

module _ (P : ℕ → Type 0) (decide : (k : ℕ) → Decided (P k)) where
  abbrev pub FirstNot : ℕ → Type 0
  FirstNot n = ((k : ℕ) → k < n → P k) ⊎ ((k : ℕ) × (k < n) × (¬ P k) × ((j : ℕ) → j < k → P j))

  pub first_not : (n : ℕ) → FirstNot n
  first_not zero = inl (λ k lt. absurd (omega (arith, lt)))
  first_not (suc n) = by (first_not n) (decide n)
    where
      last : P n → ((k : ℕ) → k < n → P k) → (k : ℕ) → k < suc n → P k
      last is all k lt = elim (cases_lt k n) [ inl less ↦ all k less | inr more ↦ subst P (omega (arith, lt, more)) is ]

      by : FirstNot n → Decided (P n) → FirstNot (suc n)
      by (inl all) (inl is) = inl (last is all)
      by (inl all) (inr not) = inr (n, omega arith, not, all)
      by (inr (k, lt, not, all)) rest = inr (k, omega (arith, lt), not, all)

  -- it is so below a number, or it is not
  below_told : (n : ℕ) → Decided ((k : ℕ) → k < n → P k)
  below_told n = elim (first_not n) [ inl all ↦ inl all | inr found ↦ inr (λ all. found.2 (all found.0 found.1)) ]

-- ---- shapes

module _ (g : Grammar) (one other : Parts) where
  values_told : (n : ℕ) →
      Decided ((p : ℕ) → p < length (property_names g) → map shape_of_value (values_at n p one.values) ≡ map shape_of_value (values_at n p other.values))
  values_told n =
      below_told (λ p. map shape_of_value (values_at n p one.values) ≡ map shape_of_value (values_at n p other.values))
      (λ p. told_list told_shape (map shape_of_value (values_at n p one.values)) (map shape_of_value (values_at n p other.values))) (length (property_names g))

  pub past : (tree : Parts) (n i : ℕ) → length tree.refs ≤ i → refers_as tree n i ≡ None
  past tree n i far = by (slice_get tree.refs i) refl
    where
      by : (o : Option Reference) → slice_get tree.refs i ≡ o → option_and_then {U = PropId × TypeId} (λ (r : Reference). if r.owner.0 == n then Some (r.prop, r.want) else None) o ≡ None
      by None at = refl
      by (Some r) at = absurd (let within = slice_get_within tree.refs i r at in omega (arith, within, far))

  references_told : (n : ℕ) → Decided ((i : ℕ) → refers_as one n i ≡ refers_as other n i)
  references_told n = elim (below_told (λ i. refers_as one n i ≡ refers_as other n i)
      (λ i. told_option (told_pair told_prop told_type) (refers_as one n i) (refers_as other n i)) (length one.refs + length other.refs)) [
        | inl all ↦ inl (λ i. elim (cases_lt i (length one.refs + length other.refs)) [
          | inl lt ↦ all i lt
          | inr far ↦ past one n i (omega (arith, far)) ∙ sym (past other n i (omega (arith, far)))
        ])
        | inr not ↦ inr (λ all. not (λ i lt. all i))
      ]

  alike_told : (n : ℕ) → Decided (IsAlikeAt g one other n)
  alike_told n =
      by (told_option (told_triple told_type (told_option told_node) (told_option told_prop)) (option_map stands_as (slice_get one.nodes n))
      (option_map stands_as (slice_get other.nodes n))) (told_list told_node (children_of n one.nodes) (children_of n other.nodes)) (values_told n)
      (references_told n)
    where
      by : Decided (option_map stands_as (slice_get one.nodes n) ≡ option_map stands_as (slice_get other.nodes n)) →
          Decided (children_of n one.nodes ≡ children_of n other.nodes) →
          Decided ((p : ℕ) → p < length (property_names g) → map shape_of_value (values_at n p one.values) ≡ map shape_of_value (values_at n p other.values)) →
          Decided ((i : ℕ) → refers_as one n i ≡ refers_as other n i) → Decided (IsAlikeAt g one other n)
      by (inl node) (inl children) (inl values) (inl references) =
          inl (record { node = node; children = children; values = values; references = references })
      by (inr not) b c d = inr (λ is. not is.node)
      by (inl a) (inr not) c d = inr (λ is. not is.children)
      by (inl a) (inl b) (inr not) d = inr (λ is. not is.values)
      by (inl a) (inl b) (inl c) (inr not) = inr (λ is. not is.references)

  abbrev IsEither : ℕ → Type 0
  IsEither n = (n < length one.nodes) ⊎ (n < length other.nodes)

  either_told : (n : ℕ) → Decided (IsEither n)
  either_told n = by (cases_lt n (length one.nodes)) (cases_lt n (length other.nodes))
    where
      by : (n < length one.nodes) ⊎ (length one.nodes ≤ n) → (n < length other.nodes) ⊎ (length other.nodes ≤ n) → Decided (IsEither n)
      by (inl lt) q = inl (inl lt)
      by (inr ge) (inl lt) = inl (inr lt)
      by (inr ge) (inr far) = inr (λ is. elim is [ inl lt ↦ omega (arith, lt, ge) | inr lt ↦ omega (arith, lt, far) ])

  kept_told : (n : ℕ) → Decided (IsEither n → IsAlikeAt g one other n)
  kept_told n = by (either_told n) (alike_told n)
    where
      by : Decided (IsEither n) → Decided (IsAlikeAt g one other n) → Decided (IsEither n → IsAlikeAt g one other n)
      by (inr never) alike = inl (λ is. absurd (never is))
      by (inl is) (inl alike) = inl (λ there. alike)
      by (inl is) (inr not) = inr (λ all. not (all is))

  sooner : (j k : ℕ) → j < k → IsEither k → IsEither j
  sooner j k lt (inl is) = inl (omega (arith, lt, is))
  sooner j k lt (inr is) = inr (omega (arith, lt, is))

  pub shape_told : HaveSameShape g one other ⊎ ((n : ℕ) × IsFirstUnlike g one other n)
  shape_told = by (first_not (λ n. IsEither n → IsAlikeAt g one other n) kept_told (length one.nodes + length other.nodes))
    where
      within : (n : ℕ) → IsEither n → n < length one.nodes + length other.nodes
      within n (inl lt) = omega (arith, lt)
      within n (inr lt) = omega (arith, lt)

      found : (k : ℕ) → ¬ (IsEither k → IsAlikeAt g one other k) → ((j : ℕ) → j < k → IsEither j → IsAlikeAt g one other j) → Decided (IsEither k) →
          HaveSameShape g one other ⊎ ((n : ℕ) × IsFirstUnlike g one other n)
      found k not all (inl is) =
          inr (k, record { there = is; unlike = λ alike. not (λ there. alike); alike_before = λ j lt. all j lt (sooner j k lt is) })
      found k not all (inr never) = absurd (not (λ is. absurd (never is)))

      by : FirstNot (λ n. IsEither n → IsAlikeAt g one other n) kept_told (length one.nodes + length other.nodes) →
          HaveSameShape g one other ⊎ ((n : ℕ) × IsFirstUnlike g one other n)
      by (inl all) = inl (λ n is. all n (within n is) is)
      by (inr (k, lt, not, all)) = found k not all (either_told k)
