use Rattle.std.proofs.Common.{◌≡◌, map, take}
use Rattle.lw_tokens.specs.Lexicon.{TerminalForm}
use Rattle.lw_matchers.proofs.token_set.patterns_of.Given as goal

abbrev pub invariant-loop-terminal : goal.invariant-loop-terminal
invariant-loop-terminal l = l.patterns.items ≡ map (λ (form : TerminalForm). form.pattern) (take l.terminal-index l.terminals)
