use Rattle.std.proofs.Common.{length, refl, arith}
use Rattle.std.proofs.lemmas.Option.{slice_get_read}
use Rattle.lw_flow.specs.Rows.{InTable}
use Rattle.lw_flow.proofs.FixedLemmas.{rule_at}
use Rattle.lw_flow.proofs.ArrivalLemmas.{walked, spreads_through, visits_within}
use Rattle.lw_flow.proofs.arrivals.spread.Goals as goal

pub spread_visits-requires : goal.spread_visits-requires
spread_visits-requires c =
    let g = c.args.source.now.grammar.now in
    let rule = c.index-as_slice-number.result in
    let marks = c.args.marks.now.items in
    let row = c.index.result.now in
    visits_within g (InTable c.args.table.now) c.args.number rule c.as_slice-2.result.now marks row c.as_slice-3.result.now
    (rule_at c.as_slice.result.now g.rules c.args.number rule c.as_slice.ensures c.requires.within c.index-as_slice-number.is)
    (slice_get_read marks (length marks) c.args.number row refl (omega (arith, c.requires.within, c.requires.marks_sized)) c.index.ensures) c.as_slice-2.ensures.keys
    (walked g c.in_ok-walk.ensures c.new-visits.ensures.items c.as_slice-3.ensures.value) c.requires.marks_sized

pub returns-clause-spreads : goal.returns-clause-spreads
returns-clause-spreads c =
    let g = c.args.source.now.grammar.now in
    let rule = c.index-as_slice-number.result in
    let marks = c.args.marks.now.items in
    let row = c.index.result.now in
    spreads_through g (InTable c.args.table.now) c.args.number rule c.as_slice-2.result.now marks c.spread_visits.new.marks.items row c.as_slice-3.result.now
    (rule_at c.as_slice.result.now g.rules c.args.number rule c.as_slice.ensures c.requires.within c.index-as_slice-number.is)
    (slice_get_read marks (length marks) c.args.number row refl (omega (arith, c.requires.within, c.requires.marks_sized)) c.index.ensures) c.as_slice-2.ensures.keys
    (walked g c.in_ok-walk.ensures c.new-visits.ensures.items c.as_slice-3.ensures.value) c.spread_visits.result c.spread_visits.ensures.spreads
