use Rattle.std.proofs.Common.{ℕ, MatchOption, sym, ap, ◌∙◌, subst, length, ◌+◌}
use Rattle.lw_grammar.specs.Kinds.{IsTerminalKind}
use Rattle.lw_kinds.proofs.TerminalNumbers.{terminal_found, terminal_missed, no_terminal}
use Rattle.lw_kinds.proofs.kind_table.KindTable.terminal.Goals as goal

pub returns-in_err-place : goal.returns-in_err-place
returns-in_err-place c kinds were =
    let g = c.args.g.now in
    let name = c.args.name.now in
    subst (λ r. MatchOption r ((k : ℕ) → ¬ IsTerminalKind g kinds name k) (λ id. IsTerminalKind g kinds name id.0)) (sym c.from_residual.ensures)
    (no_terminal g c.args.self.now c.requires.kinds name kinds were c.in_err-place.ensures)

pub returns-in_err-number : goal.returns-in_err-number
returns-in_err-number c kinds were =
    let g = c.args.g.now in
    let name = c.args.name.now in
    let means = c.in_ok-place.ensures in
    subst (λ r. MatchOption r ((k : ℕ) → ¬ IsTerminalKind g kinds name k) (λ id. IsTerminalKind g kinds name id.0)) (sym c.from_residual-in_err-number.ensures)
    (terminal_missed g c.args.self.now c.requires.kinds name kinds were c.in_ok-place.place means.0 means.1 (c.in_err-number.ensures.place g c.requires.kinds))

pub returns : goal.returns
returns c kinds were =
    let g = c.args.g.now in
    let name = c.args.name.now in
    let means = c.in_ok-place.ensures in
    let number = c.in_ok-number.number in
    subst (λ n. IsTerminalKind g kinds name (n + number)) (ap (λ row. length row.keywords) (sym c.self.view_is) ∙ sym c.len.ensures.len)
    (terminal_found g c.args.self.now c.requires.kinds name kinds were c.in_ok-place.place means.0 means.1 number (c.in_ok-number.ensures.place g c.requires.kinds))
