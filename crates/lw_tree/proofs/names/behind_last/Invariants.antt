use Rattle.lw_tree.proofs.Lasts.{AreLasts}
use Rattle.lw_tree.proofs.names.behind_last.Given as goal

abbrev pub invariant-loop-place : goal.invariant-loop-place
invariant-loop-place l = AreLasts l.prop.0 l.count l.entries l.place l.behind.items
