-- Head after head is met.
use Rattle.std.proofs.Common.{◌≤◌, length, get_or, slice_get, sym, ap, ◌∙◌, subst}
use Rattle.std.proofs.lemmas.Option.{slice_get-get_or}
use Rattle.lw_first.specs.declared.heads.head.Head.TheVariants.{Nothing}
use Rattle.lw_viable.proofs.Meeting.{meet_next, met_by_all}
use Rattle.lw_viable.proofs.begins.rules.met_row.Goals as goal

pub loop-head-preserved : goal.loop-head-preserved
loop-head-preserved c =
    let heads = c.args.heads.now in
    let i = c.loop-head.head-index in
    let at = ap (λ heads. slice_get heads i) (sym c.as_slice-head-items.ensures) ∙ slice_get-get_or c.as_slice-head-items.result.now i Nothing c.loop-head-test.true in
    meet_next heads c.args.kinds c.loop-head.row.items c.meet.new.row.items i (get_or c.as_slice-head-items.result.now i Nothing) at c.loop-head.invariant
    c.meet.ensures.sized c.meet.ensures.meets

pub returns : goal.returns
returns c =
    met_by_all c.args.heads.now c.args.kinds c.loop-head.row.items c.loop-head.head-index c.loop-head.invariant
    (subst (λ heads. length heads ≤ c.loop-head.head-index) c.as_slice-head-items.ensures c.loop-head-test.false)
