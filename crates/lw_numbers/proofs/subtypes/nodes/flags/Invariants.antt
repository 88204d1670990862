use Rattle.lw_numbers.specs.Makers.{Shows}
use Rattle.lw_numbers.proofs.subtypes.nodes.flags.Given as goal

abbrev pub invariant-loop-node : goal.invariant-loop-node
invariant-loop-node l = Shows l.met l.node l.flags.items
