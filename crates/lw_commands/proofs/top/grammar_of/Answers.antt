use Rattle.std.proofs.Common.{ℕ, MatchOption, subst, sym}
use Rattle.lw_command_line.specs.Words.{IsCommand, IsNoCommand, NamesFile}
use Rattle.lw_commands.proofs.Commands.{names_its_grammar}
use Rattle.lw_commands.proofs.top.grammar_of.Goals as goal

pub returns-in-Some : goal.returns-in-Some
returns-in-Some c =
    λ words is. subst (λ root. (k : ℕ) × NamesFile words root.path.now k) (sym c.root.ensures)
    (names_its_grammar words c.in-Some.command (subst (λ found. MatchOption found (IsNoCommand words) (IsCommand words)) c.in-Some.is is))
