use Rattle.lw_graph.specs.Walks.{HasNode}
use Rattle.lw_kinds.specs.Telling.{TellsRepeats}
use Rattle.lw_kinds.proofs.FindsLemmas.{FindsBelow}
use Rattle.lw_kinds.proofs.derivations.finding.find_repeating_nothing.Given as goal

abbrev pub invariant-loop-number : goal.invariant-loop-number
invariant-loop-number l =
    FindsBelow (λ k rule f. HasNode l.reading.reached k × TellsRepeats l.names.g.now rule rule.body f) l.names.g.now.rules l.number l.fn.found l.found
