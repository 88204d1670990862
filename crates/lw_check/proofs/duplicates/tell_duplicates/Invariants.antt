use Rattle.std.proofs.Common.{take}
use Rattle.lw_base.specs.declared.numbers.NodeId.{NodeId}
use Rattle.lw_faults.specs.Finding.{Finds, OfSome}
use Rattle.lw_grammar.specs.declared.grammar.Grammar.{Grammar}
use Rattle.lw_types.specs.Inferred.{AreTypesOf}
use Rattle.lw_check.specs.Sorting.{diagnostics_of}
use Rattle.lw_check.specs.Telling.{TellsDouble}
use Rattle.lw_check.proofs.duplicates.tell_duplicates.Given as goal

abbrev pub invariant-loop-node : goal.invariant-loop-node
invariant-loop-node l = (g : Grammar) → AreTypesOf g l.fn.types →
    Finds (OfSome (λ (n : NodeId). TellsDouble g l.fn.tree n.0) (take l.node-index l.node-items)) (diagnostics_of l.fn.diagnostics.items)
    (diagnostics_of l.diagnostics.items)
