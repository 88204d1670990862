-- The run came so far by the parser's moves.
use Rattle.std.proofs.Common.{ℕ, ◌+◌, ◌-◌, ◌*◌, ◌^◌, map, vec_len}
use Rattle.lw_grammar.specs.declared.grammar.Grammar.{Grammar}
use Rattle.lw_grammar.specs.Kinds.{Kinds}
use Rattle.lw_parse.specs.Parsers.{IsParserOf}
use Rattle.lw_parse.specs.Running.{state_of}
use Rattle.lw_parse.proofs.Runs.{IsRunning}
use Rattle.lw_parse.proofs.run.marks_of.Given as goal

abbrev pub invariant-turns : goal.invariant-turns
invariant-turns l = (g : Grammar) (kinds : Kinds) (k : ℕ) (is : IsParserOf g kinds k l.parser) →
    IsRunning g kinds k l.parser is (map (λ kind. kind.0) l.seen) (state_of l.run)

-- a mark that is left, and else a turn without one
abbrev pub decreases-turns : goal.decreases-turns
decreases-turns l = (2 ^ 64 - vec_len l.run.marks) * (2 ^ 64 + 1) + (2 ^ 64 - l.quiet)
