use Rattle.lw_kinds.specs.Telling.{TellsRepeats}
use Rattle.lw_kinds.proofs.FindsLemmas.{FindsBelow}
use Rattle.lw_kinds.proofs.derivations.names.Names.+repeats.Given as goal

abbrev pub invariant-find_each_repeats-loop-element : goal.invariant-find_each_repeats-loop-element
invariant-find_each_repeats-loop-element l =
    FindsBelow (λ k e. TellsRepeats l.self.g.now l.rule e) l.elements l.element-index l.fn.found l.found
