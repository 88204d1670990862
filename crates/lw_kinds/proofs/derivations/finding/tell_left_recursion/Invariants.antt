use Rattle.lw_graph.specs.Walks.{HasNode}
use Rattle.lw_kinds.specs.Telling.{SpeaksOf}
use Rattle.lw_kinds.proofs.FindsLemmas.{FindsBelow}
use Rattle.lw_kinds.proofs.derivations.finding.tell_left_recursion.Given as goal

abbrev pub invariant-loop-number : goal.invariant-loop-number
invariant-loop-number l =
    FindsBelow (λ k rule f. (HasNode l.reading.reached k × HasNode l.round k) × SpeaksOf 7 rule f) l.g.rules l.number l.fn.found l.found
