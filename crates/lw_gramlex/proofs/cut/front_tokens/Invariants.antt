use Rattle.std.proofs.Common.{◌-◌, length, IsCharBoundary}
use Rattle.lw_gramlex.specs.FileCut.{IsFileCutTo}
use Rattle.lw_gramlex.proofs.cut.front_tokens.Given as goal

abbrev pub invariant-front : goal.invariant-front
invariant-front l = record { cut : IsFileCutTo l.text l.at l.tokens.items; ends : IsCharBoundary l.text l.at }

abbrev pub decreases-front : goal.decreases-front
decreases-front l = length l.text - l.at
