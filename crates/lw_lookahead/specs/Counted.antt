-- Choices that are counted by the heads of their ways.
use Rattle.std.specs.Prelude.{◌≡◌, ◌<◌, ◌≤◌, ◌++◌, ◌∷◌, [], List, Result, Ok, Err}
use Rattle.lw_lookahead.specs.declared.points.gathered.Gathered.{Gathered}
use Rattle.lw_lookahead.specs.declared.points.point.Point.{Point}
use Rattle.lw_lookahead.specs.declared.points.point.TheConstants.{MOST_STRINGS}
use Rattle.lw_lookahead.specs.declared.points.point.PointsFault.{PointsFault}
use Rattle.lw_lookahead.specs.declared.points.point.PointsFault.TheVariants.{TooMany, NoMemory}
use Rattle.lw_lookahead.specs.Points.{strings_in}

-- their heads are counted, and are not too many
pub record AreCountedPoints (gathered : Gathered) : Type 0 where
  pub count : gathered.strings ≡ strings_in gathered.points.items
  pub few : gathered.strings ≤ MOST_STRINGS

-- the choice was put behind the others, and where it is told that heads are too many they are
abbrev pub IsPutPoint : Point → List Point → List Point → Result (Unit {0}) PointsFault → Type 0
IsPutPoint point old new (Ok _) = new ≡ old ++ point ∷ []
IsPutPoint point old new (Err TooMany) = (new ≡ old ++ point ∷ []) × (MOST_STRINGS < strings_in new)
IsPutPoint point old new (Err NoMemory) = Unit {0}
