use Rattle.std.proofs.Common.{◌≡◌, List, ℕ, ◌++◌, IfOk, string_bytes, codes, ◌∙◌, subst}
use Rattle.lw_commands.specs.Notes.{placed_line, problem_text}
use Rattle.lw_commands.proofs.JoinedTexts.{four}
use Rattle.lw_commands.proofs.notes.pattern_line.Goals as goal

pub returns : goal.returns
returns c =
    let terminal = c.args.terminal.now in
    let P : List ℕ → Type 0 = λ w. IfOk c.placed_line.result (λ line. string_bytes line ≡ placed_line terminal.place.path terminal.place.at w) in
    let Q : List ℕ → Type 0 = λ t. P (codes "terminal " ++ (terminal.name ++ (codes ": " ++ t))) in
    let right = subst Q c.problem_text-problem.ensures (subst P (c.as_str.ensures.value ∙ c.in_ok-what.ensures.ok) c.placed_line.ensures) in
    subst P (four (codes "terminal ") terminal.name (codes ": ") (problem_text c.args.found)) right
