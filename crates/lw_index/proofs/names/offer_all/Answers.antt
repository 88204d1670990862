use Rattle.std.proofs.Common.{refl, subst}
use Rattle.lw_index.specs.Turns.{offered, TurnsOf}
use Rattle.lw_index.proofs.AllTurns.{all_none, all_more}
use Rattle.lw_index.proofs.names.offer_all.Goals as goal

pub loop-export-init : goal.loop-export-init
loop-export-init c = (refl, all_none (λ x. offered c.args.doc x.node) c.args.place.now.1 c.args.exports.now c.args.names.now)

pub loop-export-preserved : goal.loop-export-preserved
loop-export-preserved c =
    let kept = c.loop-export.invariant in
    let x = c.export-item.result in
    let of = subst (λ u. TurnsOf (offered c.args.doc c.export-item.result.node) x.name (x.type_id.0, u) c.loop-export.names c.offer.new.names) kept.0 c.offer.ensures in
    (kept.0, all_more (λ x. offered c.args.doc x.node) c.args.place.now.1 c.args.exports.now c.loop-export.export-index x c.args.names.now c.loop-export.names c.offer.new.names c.loop-export-test.true c.export-item.is kept.1 of)
