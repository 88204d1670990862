-- Which name and type a node has, and whether a node is among others.
use Rattle.std.proofs.Common.{◌≡◌, ℕ, zero, suc, ◌<◌, List, [], ◌∷◌, Option, Some, None, Bool, true, false, Contains, filter, slice_get, inl, inr, ◌⊎◌, refl, sym, ap, ◌∙◌, subst, arith}
use Rattle.std.specs.Prelude.{if◌then◌else◌}
use Rattle.std.proofs.lemmas.Option.{same_Some, none-some}
use Rattle.lw_base.specs.declared.token.Span.{Span}
use Rattle.lw_grammar.specs.Named.{IsFirst}
use Rattle.lw_tree.specs.declared.node.Node.{Node}
use Rattle.lw_tree.specs.Parts.{Parts, name_of}
use Rattle.lw_scoping.specs.Firsts.{IsFirstIn, found, none}
use Rattle.lw_scoping.specs.Symbols.{IsNamedNode}
use Rattle.lw_machine.proofs.Finite.{Decided, here, there, nothing, here_or_there, some}
use Rattle.lw_machine.proofs.Comparing.{same_text, same_number}

pub among : (xs : List ℕ) (n : ℕ) → Decided (Contains xs n)
among xs n = by (some (λ k. k ≡ n) (λ k. same_number k n) xs)
  where
    by : Decided ((k : ℕ) × Contains xs k × (k ≡ n)) → Decided (Contains xs n)
    by (inl (k, has, is)) = inl (subst (Contains xs) is has)
    by (inr not) = inr (λ has. not (n, has, refl))

-- what a filter leaves stood there before
pub from_filter : {X : Type 0} (p : X → Bool) (xs : List X) (x : X) → Contains (filter p xs) x → Contains xs x
from_filter p [] x has = has
from_filter p (y ∷ xs) x has = by (p y) has (from_filter p xs x)
  where
    by : (b : Bool) → Contains (if b then y ∷ filter p xs else filter p xs) x → (Contains (filter p xs) x → Contains xs x) →
        Contains (y ∷ xs) x
    by true inside rest = elim (here_or_there y (filter p xs) x inside) [
      | inl same ↦ subst (Contains (y ∷ xs)) same (here y xs)
      | inr later ↦ there y xs x (rest later)
    ]
    by false inside rest = there y xs x (rest inside)

-- ---- the first

module _ {X : Type 0} (P : X → Type 0) (decide : (x : X) → Decided (P x)) where
  abbrev First : List X → Type 0
  First xs = ((i : ℕ) × (x : X) × IsFirst P xs i x) ⊎ ((x : X) → Contains xs x → ¬ P x)

  first : (xs : List X) → First xs
  first [] = inr (λ x has does. nothing x has)
  first (y ∷ xs) = by (decide y) (first xs)
    where
      at_front : P y → IsFirst P (y ∷ xs) 0 y
      at_front does = record { there = refl; does = does; none_before = λ j z lt is. absurd (omega (arith, lt)) }

      further : ¬ P y → {i : ℕ} {x : X} → IsFirst P xs i x → IsFirst P (y ∷ xs) (suc i) x
      further not {i} {x} is = record { there = is.there; does = is.does; none_before = misses }
        where
          misses : (j : ℕ) (z : X) → j < suc i → slice_get (y ∷ xs) j ≡ Some z → ¬ P z
          misses zero z lt at does = not (subst P (sym (same_Some y z at)) does)
          misses (suc j) z lt at does = is.none_before j z (omega (arith, lt)) at does

      by : Decided (P y) → First xs → First (y ∷ xs)
      by (inl does) rest = inl (0, y, at_front does)
      by (inr not) (inl (i, x, is)) = inl (suc i, x, further not is)
      by (inr not) (inr misses) =
          inr (λ x has does. elim (here_or_there y xs x has) [ inl same ↦ not (subst P (sym same) does) | inr later ↦ misses x later does ])

  pub first_in : (xs : List X) → (o : Option X) × IsFirstIn P xs o
  first_in xs = elim (first xs) [ inl is ↦ (Some is.1, found is.2) | inr misses ↦ (None, none misses) ]

-- ---- names and types

module _ (tree : Parts) (n : ℕ) where
  -- the node has a name
  pub record IsCalled : Type 0 where
    pub name : List ℕ
    pub span : Span
    pub named : name_of tree n ≡ Some (name, span)
    pub node : Node
    pub there : slice_get tree.nodes n ≡ Some node

  pub called : IsCalled ⊎ ((name : List ℕ) (type : ℕ) → ¬ IsNamedNode tree n name type)
  called = by (name_of tree n) refl (slice_get tree.nodes n) refl
    where
      by : (o : Option (List ℕ × Span)) → name_of tree n ≡ o → (p : Option Node) → slice_get tree.nodes n ≡ p →
          IsCalled ⊎ ((name : List ℕ) (type : ℕ) → ¬ IsNamedNode tree n name type)
      by None absent p at = inr (λ name type is. none-some (name, is.span) (sym absent ∙ is.named))
      by (Some named) given None absent = inr (λ name type is. none-some is.node (sym absent ∙ is.there))
      by (Some (name, span)) given (Some node) at = inl (record { name = name; span = span; named = given; node = node; there = at })

  module _ (c : IsCalled) where
    abbrev pub so_named : IsNamedNode tree n c.name c.node.type_id.0
    so_named = record { span = c.span; named = c.named; node = c.node; there = c.there; typed = refl }

    module _ (name : List ℕ) (type : ℕ) (is : IsNamedNode tree n name type) where
      pub one_name : c.name ≡ name
      one_name = ap (λ (x : List ℕ × Span). x.0) (same_Some {A = List ℕ × Span} (c.name, c.span) (name, is.span) (sym c.named ∙ is.named))

      pub one_span : c.span ≡ is.span
      one_span = ap (λ (x : List ℕ × Span). x.1) (same_Some {A = List ℕ × Span} (c.name, c.span) (name, is.span) (sym c.named ∙ is.named))

      pub one_type : c.node.type_id.0 ≡ type
      one_type = ap (λ (x : Node). x.type_id.0) (same_Some c.node is.node (sym c.there ∙ is.there)) ∙ is.typed

  pub named_so : (name : List ℕ) (type : ℕ) → Decided (IsNamedNode tree n name type)
  named_so name type = by called
    where
      check : (c : IsCalled) → Decided (c.name ≡ name) → Decided (c.node.type_id.0 ≡ type) → Decided (IsNamedNode tree n name type)
      check c (inl same) (inl typed) =
          inl (record { span = c.span; named = c.named ∙ (λ i. Some (same i, c.span)); node = c.node; there = c.there; typed = typed })
      check c (inl same) (inr other) = inr (λ is. other (one_type c name type is))
      check c (inr other) typed = inr (λ is. other (one_name c name type is))

      by : IsCalled ⊎ ((name : List ℕ) (type : ℕ) → ¬ IsNamedNode tree n name type) → Decided (IsNamedNode tree n name type)
      by (inl c) = check c (same_text c.name name) (same_number c.node.type_id.0 type)
      by (inr never) = inr (never name type)
