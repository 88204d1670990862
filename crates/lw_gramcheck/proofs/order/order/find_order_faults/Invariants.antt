use Rattle.lw_faults.specs.Finding.{Finds}
use Rattle.lw_gramcheck.specs.Found.{ByOneOf, ToldByRule}
use Rattle.lw_gramcheck.proofs.order.order.find_order_faults.Given as goal

abbrev pub invariant-loop-number : goal.invariant-loop-number
invariant-loop-number l = Finds (ByOneOf (ToldByRule l.fn.g l.fn.ways) l.number) l.fn.found l.found
