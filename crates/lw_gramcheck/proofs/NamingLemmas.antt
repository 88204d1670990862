-- A type has one name rule, so a cross-reference without a rule is read by one.
use Rattle.std.proofs.Common.{◌≡◌, ℕ, List, sym, ◌∙◌, subst}
use Rattle.lw_grammar.specs.declared.grammar.Grammar.{Grammar}
use Rattle.lw_grammar.specs.declared.rule.Value0.{Value0, out-Value0}
use Rattle.lw_grammar.specs.declared.rule.Value0.TheOpen as value
use Rattle.lw_grammar.specs.declared.rule.Value0.TheOpen.{Value0-F}
use Rattle.lw_grammar.specs.Leaves.{Leaf}
use Rattle.lw_grammar.specs.Leaves as leaf
use Rattle.lw_grammar.specs.NameRules.{IsCallOf, Names, FirstNames, here, later, NamesNodesOf, IsNameRule}
use Rattle.lw_grammar.proofs.FirstLemmas.{first_item}
use Rattle.lw_grammar.proofs.LeavesPutIn.{one_leaves}

one_call : (f : Value0-F Value0) (a b : List ℕ) → IsCallOf f a → IsCallOf f b → a ≡ b
one_call (value.Keyword text s) a b is was = absurd is
one_call (value.Call name s) a b is was = is ∙ sym was
one_call (value.Cross wanted rule s) a b is was = absurd is
one_call (value.Choice vs s) a b is was = absurd is

one_name : (l : Leaf) (a b : List ℕ) → Names l a → Names l b → a ≡ b
one_name (leaf.Keyword text s) a b is was = absurd is
one_name (leaf.Call name s) a b is was = absurd is
one_name (leaf.Assign p op v s) a b is was = one_call (out-Value0 v) a b is.2 was.2
one_name (leaf.Act act) a b is was = absurd is

one_first : {ls : List Leaf} {a b : List ℕ} → FirstNames ls a → FirstNames ls b → a ≡ b
one_first (here {leaf} {called = a} is) (here {called = b} was) = one_name leaf a b is was
one_first (here {called = a} is) (later none _) = absurd (none a is)
one_first (later none _) (here {called = b} was) = absurd (none b was)
one_first (later _ is) (later _ was) = one_first is was

pub one_name_rule : (g : Grammar) (wanted a b : List ℕ) → IsNameRule g wanted a → IsNameRule g wanted b → a ≡ b
one_name_rule g wanted a b is was =
    let same : is.rule ≡ was.rule = first_item is.first was.first in
    let names : NamesNodesOf g wanted a was.rule = subst (NamesNodesOf g wanted a) same is.names in
    let leaves = one_leaves g was.rule names.3 was.names.3 names.4 was.names.4 in
    let P : List Leaf → Type 0 = λ ls. FirstNames ls a in
    one_first (subst P leaves names.5) was.names.5
