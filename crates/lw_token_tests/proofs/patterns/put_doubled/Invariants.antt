use Rattle.std.proofs.Common.{◌≤◌, ◌+◌, ◌*◌, length, sum_by}
use Rattle.lw_grammar.specs.Size.{term_size}
use Rattle.lw_token_tests.proofs.patterns.put_doubled.Given as goal

abbrev pub invariant-loop-number : goal.invariant-loop-number
invariant-loop-number l = sum_by (λ t. 1 + term_size t.body) l.terminals.items ≤ 13 * length l.terminals.items
