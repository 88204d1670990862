-- The first item that passes is one, and so a name has one kind.
use Rattle.std.proofs.Common.{◌≡◌, ℕ, ◌+◌, List, length, slice_get, sym, ap, ◌∙◌, subst, inl, inr, arith}
use Rattle.std.proofs.lemmas.Bool.{cases_lt}
use Rattle.std.proofs.lemmas.Option.{same_Some}
use Rattle.lw_grammar.specs.declared.grammar.Grammar.{Grammar}
use Rattle.lw_grammar.specs.Named.{IsFirst}
use Rattle.lw_grammar.specs.Kinds.{Kinds, IsTerminalKind}

module _ {X : Type 0} {passes : X → Type 0} {xs : List X} {i j : ℕ} {x y : X} (a : IsFirst passes xs i x) (b : IsFirst passes xs j y) where
  pub first_place : i ≡ j
  first_place = elim (cases_lt i j) [
    | inl lt ↦ absurd (b.none_before i x lt a.there a.does)
    | inr ge ↦ elim (cases_lt j i) [
      | inl gt ↦ absurd (a.none_before j y gt b.there b.does)
      | inr le ↦ omega arith
    ]
  ]

  pub first_item : x ≡ y
  first_item = same_Some x y (sym a.there ∙ ap (λ n. slice_get xs n) first_place ∙ b.there)

pub one_terminal_kind : (g : Grammar) (kinds : Kinds) (name : List ℕ) (k l : ℕ) → IsTerminalKind g kinds name k → IsTerminalKind g kinds name l → k ≡ l
one_terminal_kind g kinds name k l a b =
    let same : b.terminal ≡ a.terminal = first_item b.meant.first a.meant.first in
    let kept : IsFirst (λ other. other ≡ a.terminal) kinds.terminals b.number a.terminal =
    subst (λ t. IsFirst (λ other. other ≡ t) kinds.terminals b.number t) same b.kept in
    a.behind ∙ ap (λ n. length kinds.keywords + n) (first_place a.kept kept) ∙ sym b.behind
