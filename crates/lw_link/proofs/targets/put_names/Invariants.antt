use Rattle.std.proofs.Common.{take}
use Rattle.lw_base.specs.declared.numbers.NodeId.{NodeId}
use Rattle.lw_faults.specs.Finding.{Finds, OfSome}
use Rattle.lw_link.specs.Visible.{IsNameOf}
use Rattle.lw_link.proofs.targets.put_names.Given as goal

-- those of the nodes so far
abbrev pub invariant-loop-n : goal.invariant-loop-n
invariant-loop-n l = Finds (OfSome (λ (n : NodeId). IsNameOf l.tree l.fits n.0) (take l.n-index l.nodes)) l.initial.names.items l.names.items
