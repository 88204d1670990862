use Rattle.std.proofs.Common.{◌↔◌, Contains}
use Rattle.lw_base.specs.declared.numbers.NodeId.{NodeId}
use Rattle.lw_symbols.specs.Runs.{StandsBehindAlike}
use Rattle.lw_symbols.proofs.runs.behind_alike.Given as goal

abbrev pub invariant-loop-place : goal.invariant-loop-place
invariant-loop-place l = (n : NodeId) → Contains l.nodes.items n ↔ StandsBehindAlike l.place l.symbols n
