use Rattle.std.proofs.Common.{take, refl, subst, ap, ◌∙◌}
use Rattle.lw_index.specs.Slots.{filled}
use Rattle.lw_index.specs.Turns.{reserved, TurnsOf}
use Rattle.lw_index.proofs.AllTurns.{all_none, all_more, all_reserved_alike, on_err}
use Rattle.lw_index.proofs.names.reserve_all.Goals as goal

pub loop-export-init : goal.loop-export-init
loop-export-init c = (refl, all_none (λ _. reserved c.args.doc) c.args.place.now.1 c.args.exports.now c.args.names.now)

pub loop-export-preserved : goal.loop-export-preserved
loop-export-preserved c =
    let kept = c.loop-export.invariant in
    let x = c.export-item.result in
    let of = subst (λ u. TurnsOf (reserved c.args.doc) x.name (x.type_id.0, u) c.loop-export.names c.reserve.new.names) kept.0 c.in_ok-reserve.ensures.made in
    (kept.0, all_more (λ _. reserved c.args.doc) c.args.place.now.1 c.args.exports.now c.loop-export.export-index x c.args.names.now c.loop-export.names c.reserve.new.names c.loop-export-test.true c.export-item.is kept.1 of)

pub returns-in_err-reserve-clause-refused : goal.returns-in_err-reserve-clause-refused
returns-in_err-reserve-clause-refused c =
    let kept = c.loop-export.invariant in
    on_err c.from_residual.result (λ n p. ap filled (c.in_err-reserve.ensures.refused n p) ∙ all_reserved_alike c.args.doc c.args.place.now.1 (take c.loop-export.export-index c.args.exports.now) c.args.names.now c.loop-export.names kept.1 n p)
