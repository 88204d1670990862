use Rattle.std.proofs.Common.{◌≡◌, map, reverse, []}
use Rattle.std.specs.List.{fold}
use Rattle.lw_load.specs.Paths.{walk_on}
use Rattle.lw_load.proofs.paths.walked_segments.Given as goal

abbrev pub invariant-loop-segment : goal.invariant-loop-segment
invariant-loop-segment l = reverse (map (λ s. s.now) l.kept.items) ≡ fold (walk_on l.absolute) [] (map (λ s. s.now) l.yielded)
