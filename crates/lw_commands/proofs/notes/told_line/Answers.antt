use Rattle.std.proofs.Common.{◌≡◌, List, ℕ, ◌++◌, IfOk, string_bytes, codes, ◌∙◌, subst}
use Rattle.std.specs.Fmt.{decimal}
use Rattle.lw_lang.specs.Texts.{fault_text}
use Rattle.lw_commands.specs.Notes.{placed_line}
use Rattle.lw_commands.proofs.JoinedTexts.{six}
use Rattle.lw_commands.proofs.notes.told_line.Goals as goal

pub returns : goal.returns
returns c =
    let told = c.args.told.now in
    let P : List ℕ → Type 0 = λ w. IfOk c.placed_line.result (λ line. string_bytes line ≡ placed_line told.path told.at w) in
    let Q : List ℕ → Type 0 = λ t. P (codes "fault " ++ (decimal told.number ++ (codes ": " ++ (t ++ (codes ": " ++ told.name))))) in
    let right = subst Q c.fault_text-text.ensures (subst P (c.as_str.ensures.value ∙ c.in_ok-what.ensures.ok) c.placed_line.ensures) in
    subst P (six (codes "fault ") (decimal told.number) (codes ": ") (fault_text told.number) (codes ": ") told.name) right
