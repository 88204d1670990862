-- Which rule or terminal a name means, by its number.
use Rattle.std.proofs.Common.{◌≡◌, ℕ, ◌+◌, ◌<◌, ◌≤◌, List, length, get_or, subst, arith}
use Rattle.std.proofs.lemmas.Option.{slice_get_within}
use Rattle.lw_grammar.specs.declared.grammar.Grammar.{Grammar}
use Rattle.lw_grammar.specs.declared.rule.Rule.{Rule}
use Rattle.lw_grammar.specs.declared.terminal.Terminal.{Terminal}
use Rattle.lw_grammar.specs.Named.{IsRule, IsTerminal, declared_rule, declared_terminal}
use Rattle.lw_numbers.specs.Numbering.{IsNumbered, rule_, terminal}
use Rattle.lw_numbers.proofs.Meanings.{meant_read}

module _ (g : Grammar) (name : List ℕ) where
  -- a number below the count of rules is a rule's
  pub rule_of_number : (n : ℕ) (x : Rule) → n < length g.rules → x ≡ get_or g.rules n x → IsNumbered g name n → IsRule g name n x
  rule_of_number n x below read (rule_ _ rule meant) = meant_read declared_rule declared_terminal name g.rules g.terminals n rule meant x read
  rule_of_number _ x below read (terminal t item meant) = absurd (omega (arith, below))

  -- the others are those of terminals
  pub terminal_of_number : (n t : ℕ) (x : Terminal) → n ≡ length g.rules + t → x ≡ get_or g.terminals t x → IsNumbered g name n →
      IsTerminal g name t x
  terminal_of_number n t x is read (rule_ _ rule meant) = absurd (omega (arith, is, slice_get_within g.rules n rule meant.first.there))
  terminal_of_number _ t x is read (terminal s item meant) =
      let meant_here : IsTerminal g name t item = let same : s ≡ t = omega (arith, is) in subst (λ k. IsTerminal g name k item) same meant in
      meant_read declared_terminal declared_rule name g.terminals g.rules t item meant_here x read

  -- and there is none behind them
  pub no_such_number : (n t : ℕ) → n ≡ length g.rules + t → length g.terminals ≤ t → IsNumbered g name n → ⊥
  no_such_number n t is behind (rule_ _ rule meant) = omega (arith, is, slice_get_within g.rules n rule meant.first.there)
  no_such_number _ t is behind (terminal s item meant) = omega (arith, is, behind, slice_get_within g.terminals s item meant.first.there)
