use Rattle.std.proofs.Common.{◌≡◌, take}
use Rattle.lw_matchers.proofs.token_set.TokenSet.matchers.Given as goal

abbrev pub invariant-loop-terminal : goal.invariant-loop-terminal
invariant-loop-terminal l = l.matchers.items ≡ take l.terminal-index l.terminal-items
