-- The rule that reads the names of the nodes of a type is one.
use Rattle.std.proofs.Common.{◌≡◌, ℕ, List, ◌∙◌, sym, subst}
use Rattle.lw_grammar.specs.declared.grammar.Grammar.{Grammar}
use Rattle.lw_grammar.specs.declared.rule.Rule.{Rule}
use Rattle.lw_grammar.specs.declared.rule.Value0.{Value0, out-Value0}
use Rattle.lw_grammar.specs.declared.rule.Value0.TheOpen as value
use Rattle.lw_grammar.specs.declared.rule.Value0.TheOpen.{Value0-F}
use Rattle.lw_grammar.specs.Leaves.{Leaf, Keyword, Call, Assign, Act}
use Rattle.lw_grammar.specs.NameRules.{IsCallOf, Names, FirstNames, IsNameRule, NamesNodesOf}
use Rattle.lw_grammar.specs.NameRules as name
use Rattle.lw_grammar.proofs.FirstLemmas.{first_item}
use Rattle.lw_grammar.proofs.LeavesPutIn.{one_leaves}

one_read : (f : Value0-F Value0) (a b : List ℕ) → IsCallOf f a → IsCallOf f b → a ≡ b
one_read (value.Call called s) a b p q = p ∙ sym q
one_read (value.Keyword t s) a b p q = absurd p
one_read (value.Cross t r s) a b p q = absurd p
one_read (value.Choice vs s) a b p q = absurd p

one_leaf : (leaf : Leaf) (a b : List ℕ) → Names leaf a → Names leaf b → a ≡ b
one_leaf (Assign p op v s) a b n o = one_read (out-Value0 v) a b n.2 o.2
one_leaf (Call t s) a b n o = absurd n
one_leaf (Keyword t s) a b n o = absurd n
one_leaf (Act t) a b n o = absurd n

first_names : {ls : List Leaf} {a b : List ℕ} → FirstNames ls a → FirstNames ls b → a ≡ b
first_names (name.here {leaf} {called = a} p) (name.here {called = b} q) = one_leaf leaf a b p q
first_names (name.here {called = a} p) (name.later none q) = absurd (none a p)
first_names (name.later none p) (name.here {called = b} q) = absurd (none b q)
first_names (name.later none p) (name.later none' q) = first_names p q

module _ (g : Grammar) where
  names_one : {wanted a b : List ℕ} (x : Rule) → NamesNodesOf g wanted a x → NamesNodesOf g wanted b x → a ≡ b
  names_one {b} x (own, has, below, all, expands, names) (own', has', below', all', expands', names') =
      first_names names (subst (λ ls. FirstNames ls b) (one_leaves g x all' all expands' expands) names')

  pub one_name_rule : (wanted a b : List ℕ) → IsNameRule g wanted a → IsNameRule g wanted b → a ≡ b
  one_name_rule wanted a b p q = names_one p.rule p.names (subst (NamesNodesOf g wanted b) (first_item q.first p.first) q.names)
