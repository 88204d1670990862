use Rattle.std.proofs.Common.{arith}
use Rattle.lw_lang.proofs.ToldPlaces.{terminal_stands, terminal_told}
use Rattle.lw_lang.proofs.told_term.told_terminal.Goals as goal

pub placed-place-requires-clause-there : goal.placed-place-requires-clause-there
placed-place-requires-clause-there c =
    terminal_stands c.args.grammar c.args.texts.now _ c.remove-name.result c.remove-name.ensures.item c.requires.stand

pub returns : goal.returns
returns c =
    let is = c.placed-place.ensures in
    terminal_told c.args.grammar c.args.texts.now _ c.remove-name.result c.remove-name.ensures.item c.args.rule c.requires.there
    (omega (arith, c.from.ensures, c.len.ensures)) c.placed-place.result (record { path = is.path; text = is.text; there = is.there; begins = is.begins })
