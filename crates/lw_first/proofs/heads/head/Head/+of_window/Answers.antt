use Rattle.std.proofs.Common.{◌≡◌, List, ℕ, length, MatchOption, ◌≢◌, ◌≤◌, sym, subst, arith}
use Rattle.lw_look.specs.Looks.{window}
use Rattle.lw_first.specs.Heads.{kinds_in, seen_in}
use Rattle.lw_first.proofs.Windows.{none_behind, put_behind}
use Rattle.lw_first.proofs.heads.head.Head.+of_window.Goals as goal

pub returns-in_err-of_window-in-len1-up : goal.returns-in_err-of_window-in-len1-up
returns-in_err-of_window-in-len1-up t c =
    let seen = c.args.seen.now in
    let k = c.args.k in
    subst (λ r. MatchOption r ((h : List ℕ) → length h ≤ 3 → seen_in seen ≢ window k h) (λ head. (seen_in seen ≡ window k (kinds_in head)) × (length (kinds_in head) ≤ k)))
    (sym c.from_residual.ensures) (none_behind seen k (omega arith) (omega arith) c.in_err-of_window-in-len1-up.ensures)

pub returns-in_ok-of_window-in-len1-up : goal.returns-in_ok-of_window-in-len1-up
returns-in_ok-of_window-in-len1-up t c =
    put_behind c.args.seen.now c.args.k _ c.in_ok-of_window-in-len1-up.field-0 c.seen_behind.result (omega arith) (omega arith) c.in_ok-of_window-in-len1-up.ensures c.seen_behind.ensures
