use Rattle.std.proofs.Common.{◌≡◌, length}
use Rattle.lw_grammar.specs.Leaves.{leaves}
use Rattle.lw_numbers.specs.Makers.{LeavesCall, LeavesMake}
use Rattle.lw_numbers.proofs.Making.{PutsFirst}
use Rattle.lw_numbers.proofs.subtypes.nodes.Makers.of.Given as goal

abbrev pub invariant-loop-number : goal.invariant-loop-number
invariant-loop-number l = record {
  nodes : l.makers.callers.nodes ≡ length l.g.rules;
  puts :
      PutsFirst l.rule-items (λ k rule. LeavesCall l.g k (leaves rule.body)) (λ k rule. LeavesMake l.g k (leaves rule.body)) l.number l.initial.makers l.makers;
}
