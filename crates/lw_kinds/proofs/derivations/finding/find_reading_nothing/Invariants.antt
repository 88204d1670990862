use Rattle.std.proofs.Common.{◌≢◌, ◌≡◌, Some, false}
use Rattle.lw_graph.specs.Walks.{HasNode}
use Rattle.lw_kinds.specs.Telling.{SpeaksOf}
use Rattle.lw_kinds.proofs.FindsLemmas.{FindsBelow}
use Rattle.lw_kinds.proofs.derivations.finding.find_reading_nothing.Given as goal

abbrev pub invariant-loop-number : goal.invariant-loop-number
invariant-loop-number l =
    FindsBelow (λ k rule f. (HasNode l.reading.reached k × (rule.is_fragment ≡ false) × (l.first ≢ Some k) × HasNode l.reading.nothing k) × SpeaksOf 8 rule f) l.g.rules l.number l.fn.found l.found
