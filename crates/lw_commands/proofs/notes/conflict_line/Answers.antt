use Rattle.std.proofs.Common.{◌≡◌, List, ℕ, IfOk, string_bytes, codes, ◌∙◌, subst}
use Rattle.std.specs.Fmt.{decimal}
use Rattle.lw_commands.specs.Notes.{placed_line}
use Rattle.lw_commands.proofs.JoinedTexts.{eight}
use Rattle.lw_commands.proofs.notes.conflict_line.Goals as goal

pub returns : goal.returns
returns c =
    let told = c.args.told.now in
    let P : List ℕ → Type 0 = λ w. IfOk c.placed_line.result (λ line. string_bytes line ≡ placed_line told.place.path told.place.at w) in
    let right = subst P (c.as_str.ensures.value ∙ c.in_ok-what.ensures.ok) c.placed_line.ensures in
    subst P (eight (codes "lookahead ") (decimal told.k) (codes ": ways ") (decimal told.first) (codes " and ") (decimal told.second) (codes " share ") told.shared) right
