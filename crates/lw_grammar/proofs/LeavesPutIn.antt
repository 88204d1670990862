-- Fragments put in: a rule has one list of leaves, and where no rule is a fragment these are the leaves of its body.
use Rattle.std.proofs.Common.{◌≡◌, ℕ, List, [], ◌∷◌, ◌++◌, false, Contains, refl, sym, ap, ap₂, ◌∙◌, subst, true≢false}
use Rattle.lw_grammar.specs.declared.grammar.Grammar.{Grammar}
use Rattle.lw_grammar.specs.declared.rule.Rule.{Rule}
use Rattle.lw_grammar.specs.Leaves.{Leaf, Keyword, Call, Assign, Act, leaves, IsFragmentCall, Expands, HasLeaves, nothing, kept, put_in, looped}
use Rattle.lw_grammar.proofs.FirstLemmas.{first_place, first_item}
use Rattle.lw_grammar.proofs.Every.{Every, every_at}

module _ (g : Grammar) where
  one_fragment : (leaf : Leaf) (r q : ℕ) (rule other : Rule) → IsFragmentCall g leaf r rule → IsFragmentCall g leaf q other → (r ≡ q) × (rule ≡ other)
  one_fragment (Keyword text s) r q rule other is was = absurd is
  one_fragment (Call name s) r q rule other is was = (first_place is.0.first was.0.first, first_item is.0.first was.0.first)
  one_fragment (Assign p op v s) r q rule other is was = absurd is
  one_fragment (Act a) r q rule other is was = absurd is

  one_expansion : {entered : List ℕ} {ls a b : List Leaf} → Expands g entered ls a → Expands g entered ls b → a ≡ b
  one_expansion nothing nothing = refl
  one_expansion (kept {leaf} not more) (kept _ others) = ap (λ ls. leaf ∷ ls) (one_expansion more others)
  one_expansion (kept not more) (put_in r rule is _ _ _) = absurd (not r rule is)
  one_expansion (kept not more) (looped r rule is _ _) = absurd (not r rule is)
  one_expansion (put_in r rule is _ _ _) (kept not _) = absurd (not r rule is)
  one_expansion (put_in {entered} {leaf} r rule is fresh inside more) (put_in {inside = found} q other was _ within others) =
      let same = one_fragment leaf r q rule other is was in
      let first = subst (λ n. Expands g (n ∷ entered) (leaves other.body) found) (sym same.0) within in
      let second = subst (λ (x : Rule). Expands g (r ∷ entered) (leaves x.body) found) (sym same.1) first in
      ap₂ (λ xs ys. xs ++ ys) (one_expansion inside second) (one_expansion more others)
  one_expansion (put_in {entered} {leaf} r rule is fresh inside more) (looped q other was begun others) =
      absurd (fresh (subst (Contains entered) (sym (one_fragment leaf r q rule other is was).0) begun))
  one_expansion (looped r rule is _ _) (kept not _) = absurd (not r rule is)
  one_expansion (looped {entered} {leaf} r rule is begun more) (put_in q other was fresh inside others) =
      absurd (fresh (subst (Contains entered) (one_fragment leaf r q rule other is was).0 begun))
  one_expansion (looped r rule is begun more) (looped _ _ _ _ others) = one_expansion more others

  pub one_leaves : (rule : Rule) (a b : List Leaf) → HasLeaves g rule a → HasLeaves g rule b → a ≡ b
  one_leaves rule a b is was = one_expansion is was

  module _ (none : Every (λ (rule : Rule). rule.is_fragment ≡ false) g.rules) where
    no_fragment : (leaf : Leaf) (r : ℕ) (rule : Rule) → ¬ IsFragmentCall g leaf r rule
    no_fragment (Keyword text s) r rule is = is
    no_fragment (Call name s) r rule is =
        true≢false (sym is.1 ∙ every_at (λ (rule : Rule). rule.is_fragment ≡ false) g.rules r rule none is.0.first.there)
    no_fragment (Assign p op v s) r rule is = is
    no_fragment (Act a) r rule is = is

    stays : (entered : List ℕ) (ls : List Leaf) → Expands g entered ls ls
    stays entered [] = nothing
    stays entered (leaf ∷ ls) = kept (no_fragment leaf) (stays entered ls)

    pub own_leaves : (rule : Rule) → HasLeaves g rule (leaves rule.body)
    own_leaves rule = stays [] (leaves rule.body)

    pub only_leaves : (rule : Rule) (all : List Leaf) → HasLeaves g rule all → all ≡ leaves rule.body
    only_leaves rule all is = one_leaves rule all (leaves rule.body) is (own_leaves rule)
