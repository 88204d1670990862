use Rattle.std.proofs.Common.{◌≡◌, ◌-◌, length, get_or, ap, subst, arith}
use Rattle.lw_numbers.proofs.NumberedLemmas.{rule_of_number, terminal_of_number, no_such_number}
use Rattle.lw_numbers.proofs.called.numbered.Goals as goal

pub returns-then-number-len : goal.returns-then-number-len
returns-then-number-len c name =
    let rule = c.index-as_slice-number.result in
    rule_of_number c.args.g.now name c.args.number rule (omega arith)
    (subst (λ xs. rule ≡ get_or xs c.args.number rule) c.as_slice.ensures c.index-as_slice-number.is)

pub returns-in-Some : goal.returns-in-Some
returns-in-Some c name =
    let place = c.args.number - c.len-2.result in
    let x = c.in-Some.terminal.now in
    let found = c.in-Some.ensures.lookup in
    terminal_of_number c.args.g.now name c.args.number place x (omega arith)
    (subst (λ xs. x ≡ get_or xs place x) c.as_slice-2.ensures found.1)

pub returns-in-None : goal.returns-in-None
returns-in-None c name is_numbered n other =
    no_such_number c.args.g.now name c.args.number (c.args.number - c.len-2.result) (omega arith)
    (omega (arith, c.in-None.ensures.lookup.3, ap length c.as_slice-2.ensures)) is_numbered
