-- What names mean that are called by terminals.
use Rattle.std.proofs.Common.{◌↔◌, ℕ, ◌<◌, List, length, subst}
use Rattle.std.proofs.lemmas.Option.{slice_get_within}
use Rattle.lw_grammar.specs.declared.grammar.Grammar.{Grammar}
use Rattle.lw_grammar.specs.declared.rule.Rule.{Rule}
use Rattle.lw_grammar.specs.declared.terminal.Terminal.{Terminal}
use Rattle.lw_grammar.specs.Named.{IsRule, IsTerminal, declared_rule, declared_terminal}
use Rattle.lw_grammar.proofs.FirstLemmas.{first_place}
use Rattle.lw_grammar.proofs.Meaning.{one_of_two}
use Rattle.lw_numbers.specs.Numbering.{IsNumbered, terminal}
use Rattle.lw_terminals.specs.Readiness.{CallsKnown}

module _ (g : Grammar) (name : List ℕ) where
  pub rule_is_no_terminal : (r : ℕ) (rule : Rule) → IsRule g name r rule → (t : ℕ) (x : Terminal) → ¬ IsTerminal g name t x
  rule_is_no_terminal r rule is t x was = one_of_two declared_rule declared_terminal name g.rules g.terminals r t rule x is was

  pub nothing_is_no_terminal : ((n : ℕ) → ¬ IsNumbered g name n) → (t : ℕ) (x : Terminal) → ¬ IsTerminal g name t x
  nothing_is_no_terminal none t x is = none _ (terminal t x is)

  pub terminal_within : (t : ℕ) → (x : Terminal) × IsTerminal g name t x → t < length g.terminals
  terminal_within t (x, is) = slice_get_within g.terminals t x is.first.there

  module _ (IsKnown : ℕ → Type 0) where
    pub known_at : (t : ℕ) → (x : Terminal) × IsTerminal g name t x → CallsKnown g IsKnown name → IsKnown t
    known_at t (x, is) (u, called, was, known) = subst IsKnown (first_place was.first is.first) known

    pub calls_by : {P : Type 0} (t : ℕ) → (x : Terminal) × IsTerminal g name t x → P ↔ IsKnown t → P ↔ CallsKnown g IsKnown name
    calls_by t (x, is) same = (λ p. (t, x, is, same.0 p), λ calls. same.1 (known_at t (x, is) calls))

    pub calls_none : ((t : ℕ) (x : Terminal) → ¬ IsTerminal g name t x) → ¬ CallsKnown g IsKnown name
    calls_none none (t, x, is, known) = none t x is
