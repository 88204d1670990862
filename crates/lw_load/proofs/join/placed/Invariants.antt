use Rattle.std.proofs.Common.{◌≡◌, ◌++◌, length, map, reverse}
use Rattle.lw_load.proofs.join.placed.Given as goal

abbrev pub invariant-loop-last : goal.invariant-loop-last
invariant-loop-last g l = map (g.T.Declared.in_file l.path l.file) l.says ++ reverse l.placed.items ≡ map (g.T.Declared.in_file l.path l.file) l.initial.says

abbrev pub decreases-loop-last : goal.decreases-loop-last
decreases-loop-last g l = length l.says
