-- A name means one rule or one terminal, or nothing.
use Rattle.std.proofs.Common.{◌≡◌, ℕ, List}
use Rattle.lw_grammar.specs.declared.grammar.Grammar.{Grammar}
use Rattle.lw_grammar.specs.declared.rule.Rule.{Rule}
use Rattle.lw_grammar.specs.declared.terminal.Terminal.{Terminal}
use Rattle.lw_grammar.specs.Named.{IsRule, IsTerminal, declared_rule, declared_terminal}
use Rattle.lw_grammar.proofs.FirstLemmas.{first_place, first_item}
use Rattle.lw_grammar.proofs.Meaning.{one_of_two}
use Rattle.lw_numbers.specs.Numbering.{IsNumbered, rule_, terminal}

module _ (g : Grammar) (name : List ℕ) where
  pub one_rule : (r q : ℕ) (one other : Rule) → IsRule g name r one → IsRule g name q other → one ≡ other
  one_rule r q one other is was = first_item is.first was.first

  pub one_rule_place : (r q : ℕ) (one other : Rule) → IsRule g name r one → IsRule g name q other → r ≡ q
  one_rule_place r q one other is was = first_place is.first was.first

  pub one_terminal : (t u : ℕ) (one other : Terminal) → IsTerminal g name t one → IsTerminal g name u other → one ≡ other
  one_terminal t u one other is was = first_item is.first was.first

  pub one_terminal_place : (t u : ℕ) (one other : Terminal) → IsTerminal g name t one → IsTerminal g name u other → t ≡ u
  one_terminal_place t u one other is was = first_place is.first was.first

  pub never_both : (r t : ℕ) (rule : Rule) (x : Terminal) → IsRule g name r rule → IsTerminal g name t x → ⊥
  never_both r t rule x is was = one_of_two declared_rule declared_terminal name g.rules g.terminals r t rule x is was

  module _ (none : (n : ℕ) → ¬ IsNumbered g name n) where
    pub no_rule : (r : ℕ) (rule : Rule) → ¬ IsRule g name r rule
    no_rule r rule is = none _ (rule_ r rule is)

    pub no_terminal : (t : ℕ) (x : Terminal) → ¬ IsTerminal g name t x
    no_terminal t x is = none _ (terminal t x is)
