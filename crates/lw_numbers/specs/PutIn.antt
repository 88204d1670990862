-- What is read at a rule's own level, fragments put in, leaf by leaf.
use Rattle.std.specs.Prelude.{ℕ, Contains}
use Rattle.lw_grammar.specs.declared.grammar.Grammar.{Grammar}
use Rattle.lw_grammar.specs.declared.rule.Rule.{Rule}
use Rattle.lw_grammar.specs.Leaves.{Leaf, leaves, IsFragmentCall}

module _ (g : Grammar) where
  -- the leaf stands in the rule's body and calls no fragment, or it stands so within a fragment that the body calls
  pub data HeldWithin : Rule → Leaf → Type 0 where
    here : {rule : Rule} {leaf : Leaf} → Contains (leaves rule.body) leaf → ((f : ℕ) (fragment : Rule) → ¬ IsFragmentCall g leaf f fragment) →
        HeldWithin rule leaf
    put_in : {rule : Rule} {leaf : Leaf} (call : Leaf) (f : ℕ) (fragment : Rule) → Contains (leaves rule.body) call → IsFragmentCall g call f fragment →
        HeldWithin fragment leaf → HeldWithin rule leaf
