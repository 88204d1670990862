use Rattle.std.proofs.Common.{subst, sym, arith}
use Rattle.std.specs.List.{AllZip}
use Rattle.std.proofs.lemmas.List.{get_or_default}
use Rattle.lw_base.proofs.Rows.{zip_more}
use Rattle.lw_session.specs.Locating.{IsLocated}
use Rattle.lw_session.proofs.locating.locations_of.Goals as goal

pub locating-preserved : goal.locating-preserved
locating-preserved c =
    subst (AllZip (IsLocated c.args.seen.now) _) (sym c.in_ok-push.ensures.ok)
    (zip_more (IsLocated c.args.seen.now) c.args.spots.now c.locating.locations c.locating.spot-index _ c.in_ok-location_of.field-0 (omega arith) (get_or_default c.args.spots.now c.locating.spot-index _ _ (omega arith))
    c.locating.invariant c.in_ok-location_of.ensures)
