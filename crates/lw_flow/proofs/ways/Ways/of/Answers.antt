use Rattle.std.proofs.Common.{length, sym, ap, ◌∙◌, subst}
use Rattle.lw_flow.specs.Arrivals.{AreArrivals}
use Rattle.lw_flow.specs.Fixed.{IsSound, IsClosed}
use Rattle.lw_flow.specs.Rows.{InTable}
use Rattle.lw_flow.proofs.MeantLemmas.{call_settled}
use Rattle.lw_flow.proofs.WholeLemmas.{are_ways}
use Rattle.lw_flow.proofs.ways.Ways.of.Goals as goal

pub arrivals-requires-clause-sound : goal.arrivals-requires-clause-sound
arrivals-requires-clause-sound c = subst (λ table. IsSound c.args.g.now (InTable table)) (sym c.as_slice.ensures.value) c.in_ok-table.ensures.sound

pub returns : goal.returns
returns c =
    let g = c.args.g.now in
    let table = c.as_slice-2.result.now in
    let is = sym c.as_slice-2.ensures.value in
    let marks = c.as_slice-3.result.now in
    are_ways g (InTable table) (subst (λ table. IsSound g (InTable table)) is c.in_ok-table.ensures.sound)
    (subst (λ table. IsClosed g (InTable table)) is c.in_ok-table.ensures.closed)
    (λ name. call_settled g name c.args.numbers.now c.requires.numbers c.args.nodes.now c.requires.nodes) marks
    (ap length c.as_slice-3.ensures.value ∙ c.in_ok-marks.ensures.sized)
    (subst (λ marks. AreArrivals g (InTable table) (InTable marks)) (sym c.as_slice-3.ensures.value)
    (subst (λ table. AreArrivals g (InTable table) (InTable c.in_ok-marks.marks.items)) (c.as_slice.ensures.value ∙ is) c.in_ok-marks.ensures.exact)) _ c.in_ok-rows.ensures
