-- The grammar with a fragment: the fragment's leaves stand for its call, and it is looked into once.
use Rattle.std.proofs.Common.{◌≡◌, ℕ, List, [], ◌∷◌, codes, Contains, refl, sym, subst, arith, true≢false}
use Rattle.lw_grammar.specs.declared.rule.Op.TheVariants.{One}
use Rattle.lw_grammar.specs.Named.{IsRule, declared_rule, declared_terminal}
use Rattle.lw_grammar.specs.Leaves.{Leaf, leaves, HasLeaves, IsFragmentCall, Expands, nothing, kept, put_in, looped}
use Rattle.lw_grammar.specs.Leaves as leaf
use Rattle.lw_grammar.specs.Subtypes.{HasType}
use Rattle.lw_grammar.proofs.LeafLemmas.{leaf_equations}
use Rattle.lw_grammar.specs.Worked.{nowhere, id_call, with_fragment, named_fragment, fragment_grammar}
use Rattle.lw_grammar.proofs.Every.{differ, first_here, first_later, meant}
use Rattle.lw_grammar.proofs.LeavesPutIn.{one_leaves}

abbrev own_leaves : List Leaf
own_leaves = leaf.Call (codes "Named") nowhere ∷ leaf.Keyword (codes "x") nowhere ∷ []

abbrev fragment_leaves : List Leaf
fragment_leaves = leaf.Assign (codes "name") One id_call nowhere ∷ leaf.Call (codes "Named") nowhere ∷ []

of_rule : leaves with_fragment.body ≡ own_leaves
of_rule = simp leaf_equations

of_fragment : leaves named_fragment.body ≡ fragment_leaves
of_fragment = simp leaf_equations

named : IsRule fragment_grammar (codes "Named") 1 named_fragment
named =
    meant declared_rule declared_terminal (codes "Named") fragment_grammar.rules fragment_grammar.terminals 1 named_fragment
    (first_later (differ _ _ refl) (first_here refl)) (differ _ _ refl, tt)

pub put_in_leaves : HasLeaves fragment_grammar with_fragment (leaf.Assign (codes "name") One id_call nowhere ∷ leaf.Keyword (codes "x") nowhere ∷ [])
put_in_leaves =
    subst (λ ls. Expands fragment_grammar [] ls (leaf.Assign (codes "name") One id_call nowhere ∷ leaf.Keyword (codes "x") nowhere ∷ [])) (sym of_rule)
    (put_in 1 named_fragment (named, refl) none inside (kept (λ r rule is. is) nothing))
  where
    none : Contains {X = ℕ} [] 1 → ⊥
    none (k, below, is) = omega arith

    inside : Expands fragment_grammar (1 ∷ []) (leaves named_fragment.body) (leaf.Assign (codes "name") One id_call nowhere ∷ [])
    inside =
        subst (λ ls. Expands fragment_grammar (1 ∷ []) ls (leaf.Assign (codes "name") One id_call nowhere ∷ [])) (sym of_fragment)
        (kept (λ r rule is. is) (looped 1 named_fragment (named, refl) (0, omega arith, refl) nothing))

pub not_its_own : ¬ HasLeaves fragment_grammar with_fragment (leaves with_fragment.body)
not_its_own is = by (one_leaves fragment_grammar with_fragment _ _ put_in_leaves (subst (HasLeaves fragment_grammar with_fragment) of_rule is))
  where
    by : leaf.Assign (codes "name") One id_call nowhere ∷ leaf.Keyword (codes "x") nowhere ∷ [] ≡ own_leaves → ⊥
    by same = cc

pub fragment_has_no_type : (name : List ℕ) → ¬ HasType fragment_grammar named_fragment name
fragment_has_no_type name is = true≢false is.0
