-- The first node at which two trees have not the same shape.
use Rattle.std.proofs.Common.{◌≡◌, ◌≢◌, ℕ, ◌+◌, ◌<◌, ◌≤◌, ◌==◌, Bool, true, false, List, [], ◌∷◌, Option, Some, None, get_or, slice_get, length, max, min, refl, sym, ap, ◌∙◌, subst, arith, inl, inr}
use Rattle.std.specs.Prelude.{◌⊎◌, if◌then◌else◌}
use Rattle.std.specs.Option.{option_map}
use Rattle.std.proofs.lemmas.Bool.{cases_lt}
use Rattle.std.proofs.lemmas.Bool.Decides.{Decides-eqb}
use Rattle.std.proofs.lemmas.Option.{same_Some, none-some, slice_get_past, slice_get_within, slice_get-get_or}
use Rattle.lw_base.specs.declared.numbers.NodeId.{NodeId}
use Rattle.lw_base.specs.declared.numbers.PropId.{PropId}
use Rattle.lw_base.specs.declared.numbers.TypeId.{TypeId}
use Rattle.lw_grammar.specs.declared.grammar.Grammar.{Grammar}
use Rattle.lw_numbers.specs.Numbering.{property_names}
use Rattle.lw_places.specs.Shapes.{HaveSameShape, IsAlikeAt, IsFirstUnlike, stands_as}
use Rattle.lw_tree.specs.declared.node.Node.{Node}
use Rattle.lw_tree.specs.declared.node.Reference.{Reference}
use Rattle.lw_tree.specs.Parts.{Parts}
use Rattle.lw_rename.specs.Alike.{
  AreAlikeBut,
  IsFirstApart,
  IsFirstApartAmong,
  IsFirstApartBelow,
  IsLesserNode,
  first,
  one,
  other,
  refers_alike,
  refers_in,
  second,
}

pub some_at : {X : Type 0} (xs : List X) (n : ℕ) → n < length xs → (x : X) × (slice_get xs n ≡ Some x)
some_at [] n below = absurd (omega (arith, below))
some_at (x ∷ xs) n below = (get_or (x ∷ xs) n x, slice_get-get_or (x ∷ xs) n x below)

-- ---- one reference and another

abbrev stands_under : Reference → Option (PropId × TypeId)
stands_under r = Some (r.prop, r.want)

pub refers_here : (r : Reference) (n : ℕ) → r.owner.0 ≡ n → refers_in (Some r) n ≡ Some (r.prop, r.want)
refers_here r n same = ap (λ (b : Bool). if b then stands_under r else None) ((Decides-eqb r.owner.0 n).1 same)

refers_elsewhere : (r : Reference) (n : ℕ) → r.owner.0 ≢ n → refers_in (Some r) n ≡ None
refers_elsewhere r n apart = by (r.owner.0 == n) refl
  where
    by : (b : Bool) → (r.owner.0 == n) ≡ b → (if b then stands_under r else None) ≡ None
    by true same = absurd (apart ((Decides-eqb r.owner.0 n).0 same))
    by false unlike = refl

differ : {A : Type 0} {x y : Option A} (a : A) → x ≡ Some a → y ≡ None → x ≡ y → ⊥
differ a some none same = none-some a (sym none ∙ sym same ∙ some)

pub alike_refer : (a b : Reference) → refers_alike a b → (n : ℕ) → refers_in (Some a) n ≡ refers_in (Some b) n
alike_refer a b (owner, prop, want) n = λ i. let under : Option (PropId × TypeId) = Some (prop i, want i) in if (owner i).0 == n then under else None

pub both_apart : (a b : Reference) (o : NodeId) → ¬ refers_alike a b → o.0 ≤ a.owner.0 → o.0 ≤ b.owner.0 → (o.0 ≡ a.owner.0) ⊎ (o.0 ≡ b.owner.0) →
    IsFirstApart (Some a) (Some b) (Some o)
both_apart a b o unlike low lower is = (apart, before)
  where
    before : (n : ℕ) → n < o.0 → refers_in (Some a) n ≡ refers_in (Some b) n
    before n below = refers_elsewhere a n (λ same. omega (arith, same, below, low)) ∙ sym (refers_elsewhere b n (λ same. omega (arith, same, below, lower)))

    tied : a.owner.0 ≡ o.0 → b.owner.0 ≡ o.0 → refers_in (Some a) o.0 ≡ refers_in (Some b) o.0 → ⊥
    tied here there same =
        let pairs = same_Some (a.prop, a.want) (b.prop, b.want) (sym (refers_here a o.0 here) ∙ same ∙ refers_here b o.0 there) in
        let owner : a.owner.0 ≡ b.owner.0 = here ∙ sym there in
        unlike (
          (λ i. record { 0 = owner i }),
          ap (λ (p : PropId × TypeId). p.0) pairs,
          ap (λ (p : PropId × TypeId). p.1) pairs,
        )

    apart : refers_in (Some a) o.0 ≡ refers_in (Some b) o.0 → ⊥
    apart same = elim (cases_lt o.0 a.owner.0) [
      | inl above ↦ elim is [
        | inl here ↦ omega (arith, here, above)
        | inr there ↦ differ (b.prop, b.want) (refers_here b o.0 (sym there)) (refers_elsewhere a o.0 (λ e. omega (arith, e, above))) (sym same)
      ]
      | inr up ↦
          let here : a.owner.0 ≡ o.0 = omega (arith, up, low) in
          elim (cases_lt o.0 b.owner.0) [
            | inl above ↦ differ (a.prop, a.want) (refers_here a o.0 here) (refers_elsewhere b o.0 (λ e. omega (arith, e, above))) same
            | inr down ↦ tied here (let there : b.owner.0 ≡ o.0 = omega (arith, down, lower) in there) same
          ]
    ]

-- ---- all references

module _ (count : ℕ) (xs ys : List Reference) where
  -- what holds below a count and at it holds below the next
  up_to : (k : ℕ) → ((i : ℕ) → i < count → refers_in (slice_get xs i) k ≡ refers_in (slice_get ys i) k) →
      refers_in (slice_get xs count) k ≡ refers_in (slice_get ys count) k → (i : ℕ) → i < count + 1 → refers_in (slice_get xs i) k ≡ refers_in (slice_get ys i) k
  up_to k before here i inside = elim (cases_lt i count) [
    | inl lower ↦ before i lower
    | inr up ↦ subst (λ j. refers_in (slice_get xs j) k ≡ refers_in (slice_get ys j) k) (let e : count ≡ i = omega (arith, inside, up) in e) here
  ]

  pub apart_more : (found here both : Option NodeId) → IsLesserNode found here both → IsFirstApartBelow count xs ys found →
      IsFirstApart (slice_get xs count) (slice_get ys count) here → IsFirstApartBelow (count + 1) xs ys both
  apart_more _ _ _ (first {n = n} {m = m} low) ((i, below, unlike), same) (_, same_here) = (
    (i, omega (arith, below), unlike),
    λ j k inside less. up_to k (λ j lower. same j k lower less) (same_here k (omega (arith, less, low))) j inside,
  )
  apart_more _ _ _ (second {n = n} {m = m} low) (_, same) (unlike, same_here) = (
    (count, omega arith, unlike),
    λ j k inside less. up_to k (λ j lower. same j k lower (omega (arith, less, low))) (same_here k less) j inside,
  )
  apart_more _ _ _ (one {n = n}) ((i, below, unlike), same) same_here = (
    (i, omega (arith, below), unlike),
    λ j k inside less. up_to k (λ j lower. same j k lower less) (same_here k) j inside,
  )
  apart_more _ _ _ (other {m = m}) same same_here = with_other m same same_here
    where
      with_other : (m : Option NodeId) → ((i n : ℕ) → i < count → refers_in (slice_get xs i) n ≡ refers_in (slice_get ys i) n) →
          IsFirstApart (slice_get xs count) (slice_get ys count) m → IsFirstApartBelow (count + 1) xs ys m
      with_other None same same_here = λ j k inside. up_to k (λ j lower. same j k lower) (same_here k) j inside
      with_other (Some m) same (unlike, same_here) = (
        (count, omega arith, unlike),
        λ j k inside less. up_to k (λ j lower. same j k lower) (same_here k less) j inside,
      )

pub apart_all : (count : ℕ) (xs ys : List Reference) (found : Option NodeId) → length xs ≤ count → length ys ≤ count → IsFirstApartBelow count xs ys found →
    IsFirstApartAmong xs ys found
apart_all count xs ys found long wide is = by found is
  where
    past : (i n : ℕ) → count ≤ i → refers_in (slice_get xs i) n ≡ refers_in (slice_get ys i) n
    past i n up =
        ap (λ (o : Option Reference). refers_in o n)
        (slice_get_past xs i (omega (arith, long, up)) ∙ sym (slice_get_past ys i (omega (arith, wide, up))))

    by : (found : Option NodeId) → IsFirstApartBelow count xs ys found → IsFirstApartAmong xs ys found
    by None same = λ i n. elim (cases_lt i count) [ inl below ↦ same i n below | inr up ↦ past i n up ]
    by (Some o) ((i, _, unlike), same) =
        ((i, unlike), λ j n less. elim (cases_lt j count) [ inl below ↦ same j n below less | inr up ↦ past j n up ])

-- ---- all nodes

-- the first nodes are alike but for their references, and the node told is none of them
pub record AreAlikeBelow (a b : Parts) (props : ℕ) (apart : Option NodeId) (n : ℕ) : Type 0 where
  pub but : (k : ℕ) → k < n → AreAlikeBut a b k props
  pub not_apart : (o : NodeId) → apart ≡ Some o → n ≤ o.0

pub one_more : (a b : Parts) (props : ℕ) (apart : Option NodeId) (n : ℕ) (node : NodeId) → node.0 ≡ n → AreAlikeBelow a b props apart n → apart ≢ Some node →
    AreAlikeBut a b n props → AreAlikeBelow a b props apart (n + 1)
one_more a b props apart n node number are unlike is = record {
  but = λ k below. elim (cases_lt k n) [
    | inl lower ↦ are.but k lower
    | inr up ↦ subst (λ j. AreAlikeBut a b j props) (let e : n ≡ k = omega (arith, below, up) in e) is
  ];
  not_apart = λ o here. elim (cases_lt n o.0) [
    | inl above ↦ omega (arith, above)
    | inr up ↦
        let low = are.not_apart o here in
        let same : o.0 ≡ node.0 = omega (arith, up, low, number) in
        absurd (unlike (here ∙ ap (λ k. let n : NodeId = record { 0 = k } in Some n) same))
  ];
}

module _ (g : Grammar) (a b : Parts) (props : ℕ) (count : length (property_names g) ≡ props) where
  alike : (n : ℕ) → AreAlikeBut a b n props → ((i : ℕ) → refers_in (slice_get a.refs i) n ≡ refers_in (slice_get b.refs i) n) → IsAlikeAt g a b n
  alike n is same = record {
    node = is.node;
    children = is.children;
    values = λ p below. is.values p (omega (arith, below, count));
    references = same;
  }

  in_both : (n : ℕ) (xs ys : List Node) → option_map stands_as (slice_get xs n) ≡ option_map stands_as (slice_get ys n) → n < length xs → n < length ys
  in_both n xs ys same below = let (x, at) = some_at xs n below in by (slice_get ys n) refl x (ap (option_map stands_as) (sym at) ∙ same)
    where
      by : (o : Option Node) → slice_get ys n ≡ o → (x : Node) → Some (stands_as x) ≡ option_map stands_as (slice_get ys n) → n < length ys
      by (Some y) there x same = slice_get_within ys n y there
      by None none x same = absurd (none-some (stands_as x) (sym (same ∙ ap (option_map stands_as) none)))

  pub unlike_but : (n : ℕ) → (n < length a.nodes) ⊎ (n < length b.nodes) → ¬ AreAlikeBut a b n props → ¬ IsAlikeAt g a b n
  unlike_but n there unlike is = unlike (record {
    in_one = elim there [ inl below ↦ below | inr below ↦ in_both n b.nodes a.nodes (sym is.node) below ];
    in_other = elim there [ inl below ↦ in_both n a.nodes b.nodes is.node below | inr below ↦ below ];
    node = is.node;
    children = is.children;
    values = λ p below. is.values p (omega (arith, below, count));
  })

  module _ (apart : Option NodeId) (among : IsFirstApartAmong a.refs b.refs apart) where
    same_references : (n k : ℕ) → AreAlikeBelow a b props apart n → k < n → (i : ℕ) → refers_in (slice_get a.refs i) k ≡ refers_in (slice_get b.refs i) k
    same_references n k are below i = by apart refl among
      where
        by : (o : Option NodeId) → apart ≡ o → IsFirstApartAmong a.refs b.refs o → refers_in (slice_get a.refs i) k ≡ refers_in (slice_get b.refs i) k
        by None _ same = same i k
        by (Some o) is (_, same) = let low = are.not_apart o is in same i k (omega (arith, low, below))

    alike_below : (n k : ℕ) → AreAlikeBelow a b props apart n → k < n → IsAlikeAt g a b k
    alike_below n k are below = alike k (are.but k below) (same_references n k are below)

    pub first_unlike_at : (n : ℕ) → (n < length a.nodes) ⊎ (n < length b.nodes) → AreAlikeBelow a b props apart n → ¬ IsAlikeAt g a b n → IsFirstUnlike g a b n
    first_unlike_at n there are unlike = record { there = there; unlike = unlike; alike_before = λ k below. alike_below n k are below }

    pub unlike_apart : (o : NodeId) → apart ≡ Some o → ¬ IsAlikeAt g a b o.0
    unlike_apart o is same = by apart is among
      where
        by : (p : Option NodeId) → p ≡ Some o → IsFirstApartAmong a.refs b.refs p → ⊥
        by None none _ = none-some o none
        by (Some p) at ((i, unlike), _) = let number = ap (λ (x : NodeId). x.0) (same_Some p o at) in
            unlike (subst (λ k. refers_in (slice_get a.refs i) k ≡ refers_in (slice_get b.refs i) k) (sym number) (same.references i))

    pub same_shape : (n : ℕ) → length a.nodes ≤ n → length b.nodes ≤ n → AreAlikeBelow a b props apart n → HaveSameShape g a b
    same_shape n long wide are k there =
        alike_below n k are (elim there [ inl less ↦ omega (arith, less, long) | inr less ↦ omega (arith, less, wide) ])

-- ---- the lesser of two

pub lesser_node : (n m l : NodeId) → l.0 ≤ n.0 → l.0 ≤ m.0 → (l.0 ≡ n.0) ⊎ (l.0 ≡ m.0) → IsLesserNode (Some n) (Some m) (Some l)
lesser_node n m l low lower is = elim is [
  | inl same ↦ subst (λ k. IsLesserNode (Some n) (Some m) (Some (record { 0 = k }))) (sym same) (first (omega (arith, same, lower)))
  | inr same ↦ subst (λ k. IsLesserNode (Some n) (Some m) (Some (record { 0 = k }))) (sym same) (second (omega (arith, same, low)))
]

pub one_of_both : (a b c : ℕ) → c ≡ min a b → (c ≡ a) ⊎ (c ≡ b)
one_of_both a b c is = elim (cases_lt a b) [ inl below ↦ inl (omega (arith, is, below)) | inr up ↦ inr (omega (arith, is, up)) ]

pub in_either : (a b : Parts) (n : ℕ) → n < max (length a.nodes) (length b.nodes) → (n < length a.nodes) ⊎ (n < length b.nodes)
in_either a b n inside = elim (cases_lt n (length a.nodes)) [ inl below ↦ inl below | inr up ↦ inr (omega (arith, inside, up)) ]
