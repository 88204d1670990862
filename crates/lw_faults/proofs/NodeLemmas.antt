-- Which rules make nodes, from their leaves.
use Rattle.std.proofs.Common.{◌≡◌, ℕ, List, [], ◌∷◌, codes, Contains, sym, subst, arith, refl}
use Rattle.lw_grammar.specs.declared.grammar.Grammar.{Grammar}
use Rattle.lw_grammar.specs.declared.rule.Rule.{Rule}
use Rattle.lw_grammar.specs.declared.rule.Op.TheVariants.{One}
use Rattle.lw_grammar.specs.declared.rule.Value0.TheVariants as value
use Rattle.lw_grammar.specs.Leaves.{Leaf, leaves}
use Rattle.lw_grammar.specs.Leaves as leaf
use Rattle.lw_grammar.specs.Nodes.{MakesNodes}
use Rattle.lw_grammar.specs.Nodes as nodes
use Rattle.lw_grammar.proofs.LeafLemmas.{leaves-Assign, leaves-Call}
use Rattle.lw_faults.specs.Reads.{IsTokenCall}
use Rattle.lw_faults.specs.Worked.{no_place, puts, id_element}
use Rattle.lw_grammar.proofs.CallLemmas.{makes_none}

module _ (g : Grammar) where
  -- a rule of one assignment makes nodes, and a rule that is a call of ID does not
  pub puts_makes : (rule : Rule) (p name : List ℕ) → rule.body ≡ puts p name → MakesNodes g rule
  puts_makes rule p name is =
      nodes.assigns p One (value.Call name no_place) no_place
      (subst (λ e. Contains (leaves e) (leaf.Assign p One (value.Call name no_place) no_place)) (sym is) (rw leaves-Assign (0, omega arith, refl)))

  pub id_makes_none : (rule : Rule) → rule.body ≡ id_element → IsTokenCall g (codes "ID") → ¬ MakesNodes g rule
  id_makes_none rule is none = makes_none g rule _ (subst (λ e. leaves e ≡ leaf.Call (codes "ID") no_place ∷ []) (sym is) (leaves-Call (codes "ID") no_place)) (none, tt)
