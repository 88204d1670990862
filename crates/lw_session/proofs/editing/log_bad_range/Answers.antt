use Rattle.std.proofs.Common.{◌≡◌, ℕ, List, [], ◌∷◌, ◌++◌, IfOk, codes, decimal, append_assoc, subst, ◌∙◌}
use Rattle.lw_rpc.specs.declared.reply.Reply.TheVariants.{Log}
use Rattle.lw_session.specs.Lifecycle.{telling}
use Rattle.lw_session.proofs.editing.log_bad_range.Goals as goal

-- a line is written piece by piece
four : (a b c d : List ℕ) → a ++ (b ++ (c ++ d)) ≡ ((a ++ b) ++ c) ++ d
four a b c d = simp append_assoc

pub returns : goal.returns
returns c =
    let P : List ℕ → Type 0 = λ line. IfOk c.tells.result (λ told. told ≡ telling c.args.phase (Log line ∷ [])) in
    subst P (c.from_string.ensures ∙ c.in_ok-line.ensures.ok ∙ four (codes "bad range in change ") (decimal c.args.number) (codes " of ") c.args.address.now)
    c.tells.ensures
