use Rattle.std.proofs.Common.{sym, arith}
use Rattle.lw_matching.proofs.RowLemmas.{end_past, end_stuck, end_read}
use Rattle.lw_matching.proofs.lengths.row.end_behind.Goals as goal

pub returns-in-Some : goal.returns-in-Some
returns-in-Some c =
    let place = c.args.place.now in
    end_read place.nfa.now place.text.now place.at place.starts c.args.id c.args.state (sym c.requires.state) c.requires.reads c.if-place.true
    c.in-Some.next _ (sym c.in-Some.ensures.is) (c.requires.place.behind c.if-place.true c.in-Some.next c.in-Some.ensures.within)

pub returns-in-None : goal.returns-in-None
returns-in-None c =
    let place = c.args.place.now in
    end_stuck place.nfa.now place.text.now place.at place.starts c.args.id c.args.state (sym c.requires.state) c.requires.reads c.if-place.true
    (sym c.in-None.ensures.is)

pub returns-else-place : goal.returns-else-place
returns-else-place c =
    let place = c.args.place.now in
    end_past place.nfa.now place.text.now place.at place.starts c.args.id c.args.state (sym c.requires.state) c.requires.reads
    (omega (arith, c.if-place.false))
