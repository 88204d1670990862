-- A cross-reference is read by one name.
use Rattle.std.proofs.Common.{◌≡◌, ℕ, List, Option, Some, None, sym, ◌∙◌, subst}
use Rattle.lw_grammar.specs.declared.grammar.Grammar.{Grammar}
use Rattle.lw_grammar.specs.declared.rule.Rule.{Rule}
use Rattle.lw_grammar.specs.declared.rule.Value0.{Value0, out-Value0}
use Rattle.lw_grammar.specs.declared.rule.Value0.TheOpen as value
use Rattle.lw_grammar.specs.declared.rule.Value0.TheOpen.{Value0-F}
use Rattle.lw_grammar.specs.Leaves.{Leaf, Keyword, Call, Assign, Act}
use Rattle.lw_grammar.specs.NameRules.{IsCallOf, Names, FirstNames, here, later, NamesNodesOf, IsNameRule}
use Rattle.lw_grammar.proofs.FirstLemmas.{first_item}
use Rattle.lw_grammar.proofs.LeavesPutIn.{one_leaves}
use Rattle.lw_kinds.specs.Crossing.{IsReadBy}

module _ {a b : List ℕ} where
  one_called : (f : Value0-F Value0) → IsCallOf f a → IsCallOf f b → a ≡ b
  one_called (value.Keyword text s) is was = absurd is
  one_called (value.Call name s) is was = is ∙ sym was
  one_called (value.Cross wanted rule s) is was = absurd is
  one_called (value.Choice vs s) is was = absurd is

  one_named : (leaf : Leaf) → Names leaf a → Names leaf b → a ≡ b
  one_named (Keyword text s) is was = absurd is
  one_named (Call name s) is was = absurd is
  one_named (Assign p op v s) is was = one_called (out-Value0 v) is.2 was.2
  one_named (Act act) is was = absurd is

  one_first : {ls : List Leaf} → FirstNames ls a → FirstNames ls b → a ≡ b
  one_first (here {leaf} is) (here was) = one_named leaf is was
  one_first (here is) (later none _) = absurd (none a is)
  one_first (later none _) (here was) = absurd (none b was)
  one_first (later _ is) (later _ was) = one_first is was

module _ (g : Grammar) (wanted : List ℕ) where
  names_one : (rule : Rule) (a b : List ℕ) → NamesNodesOf g wanted a rule → NamesNodesOf g wanted b rule → a ≡ b
  names_one rule a b is was = one_first is.5 (subst (λ ls. FirstNames ls b) (one_leaves g rule was.3 is.3 was.4 is.4) was.5)

  one_name_rule : (a b : List ℕ) → IsNameRule g wanted a → IsNameRule g wanted b → a ≡ b
  one_name_rule a b is was = names_one is.rule a b is.names (subst (NamesNodesOf g wanted b) (first_item was.first is.first) was.names)

  pub one_reads : (rule : Option (List ℕ)) (a b : List ℕ) → IsReadBy g wanted rule a → IsReadBy g wanted rule b → a ≡ b
  one_reads None a b is was = one_name_rule a b is was
  one_reads (Some written) a b is was = sym is ∙ was
