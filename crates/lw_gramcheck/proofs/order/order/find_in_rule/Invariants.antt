use Rattle.std.proofs.Common.{◌≡◌, List, Some, slice_get}
use Rattle.lw_grammar.specs.Leaves.{leaves}
use Rattle.lw_faults.specs.Finding.{Finds}
use Rattle.lw_flow.specs.declared.before.Before.{Before}
use Rattle.lw_gramcheck.specs.Found.{ByOneOf, ToldByLeaf}
use Rattle.lw_gramcheck.proofs.order.order.find_in_rule.Given as goal

abbrev pub invariant-loop-i : goal.invariant-loop-i
invariant-loop-i l = (row : List Before) → slice_get l.fn.ways l.fn.number ≡ Some row →
    Finds (ByOneOf (ToldByLeaf l.fn.names.g.now l.fn.rule (leaves l.fn.rule.body) row) l.i) l.fn.found l.found
