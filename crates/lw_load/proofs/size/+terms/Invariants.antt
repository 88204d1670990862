use Rattle.std.proofs.Common.{◌≡◌, min, ◌^◌, ◌-◌, sum_by, take}
use Rattle.lw_grammar.specs.Size.{term_size}
use Rattle.lw_load.proofs.size.+terms.Given as goal

abbrev pub invariant-terms_size-loop-term : goal.invariant-terms_size-loop-term
invariant-terms_size-loop-term l = l.total ≡ min (sum_by term_size (take l.term-index l.terms)) (2 ^ 64 - 1)
