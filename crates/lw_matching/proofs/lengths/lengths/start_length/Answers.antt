use Rattle.std.proofs.Common.{◌≡◌, ◌-◌, Some, sym, ap, ◌∙◌, arith}
use Rattle.lw_matching.proofs.LengthLemmas.{start_some, start_none}
use Rattle.lw_matching.proofs.lengths.lengths.start_length.Goals as goal

pub overflow_sub-result : goal.overflow_sub-result
overflow_sub-result c =
    let place = c.args.place.now in
    let found = start_some place.nfa.now place.text.now place.at place.starts c.requires.starts c.fill_row.new.row c.fill_row.ensures.row
    c.in-Some.end c.in-Some.is in
    omega (arith, found.2)

pub returns-in-Some-clause-length : goal.returns-in-Some-clause-length
returns-in-Some-clause-length c =
    let place = c.args.place.now in
    let found = start_some place.nfa.now place.text.now place.at place.starts c.requires.starts c.fill_row.new.row c.fill_row.ensures.row
    c.in-Some.end c.in-Some.is in
    let left : c.in-Some.end - place.at ≡ found.0 = omega (arith, found.2) in
    ap Some left ∙ sym found.1

pub returns-in-None-clause-length : goal.returns-in-None-clause-length
returns-in-None-clause-length c =
    let place = c.args.place.now in
    sym (start_none place.nfa.now place.text.now place.at place.starts c.requires.starts c.fill_row.new.row c.fill_row.ensures.row c.in-None.is)
