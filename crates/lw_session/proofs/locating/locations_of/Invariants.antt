use Rattle.std.proofs.Common.{take}
use Rattle.std.specs.List.{AllZip}
use Rattle.lw_session.specs.Locating.{IsLocated}
use Rattle.lw_session.proofs.locating.locations_of.Given as goal

abbrev pub invariant-locating : goal.invariant-locating
invariant-locating l = AllZip (IsLocated l.seen) (take l.spot-index l.spots) l.locations
