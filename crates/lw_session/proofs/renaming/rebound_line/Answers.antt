use Rattle.std.proofs.Common.{◌≡◌, ℕ, List, ◌++◌, codes, decimal, append_assoc, ◌∙◌}
use Rattle.lw_session.proofs.renaming.rebound_line.Goals as goal

-- a line is written piece by piece
seven : (a b c d e f g : List ℕ) → a ++ (b ++ (c ++ (d ++ (e ++ (f ++ g))))) ≡ (((((a ++ b) ++ c) ++ d) ++ e) ++ f) ++ g
seven a b c d e f g = simp append_assoc

pub returns : goal.returns
returns c =
    c.from_string.ensures
    ∙ c.in_ok-text.ensures.ok
    ∙ seven (codes "A reference in ") c.args.uri.now (codes " at ") (decimal c.args.line) (codes ":") (decimal c.args.character) (codes " would change its target.")
