use Rattle.std.proofs.Common.{None, sym, subst, get_or}
use Rattle.std.specs.Option.{option_or}
use Rattle.lw_matching.specs.Rows.{IsEndFrom}
use Rattle.lw_matching.proofs.RowLemmas.{end_split, end_save, end_look, end_no_look, end_match, end_fail}
use Rattle.lw_matching.proofs.lengths.row.end_from.Goals as goal

pub returns-in-Some : goal.returns-in-Some
returns-in-Some c =
    let place = c.args.place.now in
    let row = c.args.row.now in
    let both = end_split place.nfa.now place.text.now place.at place.starts c.args.id c.in-Split.first c.in-Split.second
    (get_or row c.in-Split.first None) (get_or row c.in-Split.second None) (sym c.in-Split.ensures.is)
    (c.requires.below c.in-Split.first c.in-Split.ensures.sound.0) (c.requires.below c.in-Split.second c.in-Split.ensures.sound.1) in
    subst (λ o. IsEndFrom place.nfa.now place.text.now place.at place.starts c.args.id (option_or o (get_or row c.in-Split.second None))) c.in-Some.is both

pub returns-in-None : goal.returns-in-None
returns-in-None c =
    let place = c.args.place.now in
    let row = c.args.row.now in
    let both = end_split place.nfa.now place.text.now place.at place.starts c.args.id c.in-Split.first c.in-Split.second
    (get_or row c.in-Split.first None) (get_or row c.in-Split.second None) (sym c.in-Split.ensures.is)
    (c.requires.below c.in-Split.first c.in-Split.ensures.sound.0) (c.requires.below c.in-Split.second c.in-Split.ensures.sound.1) in
    subst (λ o. IsEndFrom place.nfa.now place.text.now place.at place.starts c.args.id (option_or o (get_or row c.in-Split.second None))) c.in-None.is both

pub returns-in-Save : goal.returns-in-Save
returns-in-Save c =
    let place = c.args.place.now in
    end_save place.nfa.now place.text.now place.at place.starts c.args.id c.in-Save.slot c.in-Save.next (get_or c.args.row.now c.in-Save.next None)
    (sym c.in-Save.ensures.is) (c.requires.below c.in-Save.next c.in-Save.ensures.sound.1)

pub returns-then-place : goal.returns-then-place
returns-then-place c =
    let place = c.args.place.now in
    end_look place.nfa.now place.text.now place.at place.starts c.args.id c.in-Look.look c.in-Look.next (get_or c.args.row.now c.in-Look.next None)
    c.requires.place.looks (sym c.in-Look.ensures.is) c.if-place.true (c.requires.below c.in-Look.next c.in-Look.ensures.sound)

pub returns-else-place : goal.returns-else-place
returns-else-place c =
    let place = c.args.place.now in
    end_no_look place.nfa.now place.text.now place.at place.starts c.args.id c.in-Look.look c.in-Look.next
    c.requires.place.looks (sym c.in-Look.ensures.is) c.if-place.false

pub returns-in-Match : goal.returns-in-Match
returns-in-Match c =
    let place = c.args.place.now in
    end_match place.nfa.now place.text.now place.at place.starts c.args.id (sym c.in-Match.ensures.is)

pub returns-in-Fail : goal.returns-in-Fail
returns-in-Fail c =
    let place = c.args.place.now in
    end_fail place.nfa.now place.text.now place.at place.starts c.args.id (sym c.in-Fail.ensures.is)
