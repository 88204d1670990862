-- A turn at a reading, in words of readings: it is dropped, or its changes are put on.
use Rattle.std.proofs.Common.{◌≡◌, ℕ, List, [], ◌∷◌, ◌++◌, Option, map, slice_get}
use Rattle.lw_base.specs.declared.numbers.KindId.{KindId}
use Rattle.lw_program.specs.ProgramOf.{ProgramParts}
use Rattle.lw_program.specs.declared.recipes.mark.TreeMark.{TreeMark}
use Rattle.lw_viable.specs.Told.{BeginsParts}
use Rattle.lw_viable.specs.Readings.{KeptReading}
use Rattle.lw_viable.specs.Growing.{Change, changed}
use Rattle.lw_viable.specs.Turning.{AreQuiet, AreRead}
use Rattle.lw_viable.proofs.Made.{reading}

-- what is still to be explored, and what was found, before and after the turn at r
pub data TurnsAt (program : ProgramParts) (told : BeginsParts) (kind : Option KindId) (r : KeptReading) (work after found noted : List KeptReading) : Type 0 where
  drops : (marks : List TreeMark) → r ≡ reading marks [] → after ≡ work → noted ≡ found → TurnsAt program told kind r work after found noted
  moves : {p : ℕ} (marks : List TreeMark) (rest : List ℕ) (quiet tokens : List Change) → r ≡ reading marks (p ∷ rest) →
      AreQuiet program told kind p (slice_get program.code p) quiet → AreRead kind (slice_get program.code p) tokens →
      after ≡ work ++ map (changed (reading marks rest)) quiet → noted ≡ found ++ map (changed (reading marks rest)) tokens →
      TurnsAt program told kind r work after found noted
