-- Two trees differ first at one node at most, and by their tables alone.
use Rattle.std.proofs.Common.{◌≡◌, ◌<◌, ◌⊎◌, inl, inr, ℕ, List, length, map, slice_get, sym, ap, ◌∙◌, subst₂, arith}
use Rattle.std.specs.Option.{option_map}
use Rattle.std.proofs.lemmas.Bool.{cases_lt}
use Rattle.lw_grammar.specs.declared.grammar.Grammar.{Grammar}
use Rattle.lw_scoping.proofs.Tables.{turned}
use Rattle.lw_tree.specs.declared.node.Node.{Node}
use Rattle.lw_tree.specs.declared.node.Reference.{Reference}
use Rattle.lw_tree.specs.declared.node.Value.{Value}
use Rattle.lw_tree.specs.Parts.{Parts, SameTables, children_of}
use Rattle.lw_places.specs.Shapes.{HaveSameShape, IsAlikeAt, IsFirstUnlike, refers_as, shape_of_value, stands_as}

pub one_unlike : (g : Grammar) (one other : Parts) (n k : ℕ) → IsFirstUnlike g one other n → IsFirstUnlike g one other k → n ≡ k
one_unlike g one other n k is was = elim (cases_lt n k) [
  | inl lt ↦ absurd (is.unlike (was.alike_before n lt))
  | inr ge ↦ elim (cases_lt k n) [
    | inl gt ↦ absurd (was.unlike (is.alike_before k gt))
    | inr le ↦ omega arith
  ]
]

pub not_unlike : (g : Grammar) (one other : Parts) (n : ℕ) → HaveSameShape g one other → IsFirstUnlike g one other n → ⊥
not_unlike g one other n same is = is.unlike (same n is.there)

-- trees with the tables of these
module _ (g : Grammar) where
  alike_too : {one other tree behind : Parts} → SameTables one tree → SameTables other behind → (n : ℕ) → IsAlikeAt g one other n → IsAlikeAt g tree behind n
  alike_too {one} {other} {tree} {behind} before after n is = record {
    node =
        ap (λ (nodes : List Node). option_map stands_as (slice_get nodes n)) (sym before.nodes) ∙ is.node
        ∙ ap (λ (nodes : List Node). option_map stands_as (slice_get nodes n)) after.nodes;
    children = ap (λ (nodes : List Node). children_of n nodes) (sym before.nodes) ∙ is.children ∙ ap (λ (nodes : List Node). children_of n nodes) after.nodes;
    values = λ p low.
        ap (λ (vs : List Value). map shape_of_value vs) (sym (before.values n p)) ∙ is.values p low
        ∙ ap (λ (vs : List Value). map shape_of_value vs) (after.values n p);
    references = λ i.
        ap (λ (refs : List Reference). refers_as (record one { refs = refs }) n i) (sym before.refs) ∙ is.references i
        ∙ ap (λ (refs : List Reference). refers_as (record other { refs = refs }) n i) after.refs;
  }

  pub unlike_too : {one other tree behind : Parts} → SameTables one tree → SameTables other behind → (n : ℕ) → IsFirstUnlike g one other n →
      IsFirstUnlike g tree behind n
  unlike_too before after n is = record {
    there = subst₂ (λ (xs ys : List Node). (n < length xs) ⊎ (n < length ys)) before.nodes after.nodes is.there;
    unlike = λ alike. is.unlike (alike_too (turned before) (turned after) n alike);
    alike_before = λ k low. alike_too before after k (is.alike_before k low);
  }
