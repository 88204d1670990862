use Rattle.std.proofs.Common.{map, ap, ◌∙◌, subst}
use Rattle.lw_grammar.specs.Leaves.{leaves}
use Rattle.lw_numbers.specs.Parts.{leaf_of}
use Rattle.lw_numbers.specs.Makers.{LeavesCall, LeavesMake, PutsLeaves}
use Rattle.lw_numbers.proofs.Making.{puts_more, all_makers}
use Rattle.lw_numbers.proofs.subtypes.nodes.Makers.of.Goals as goal
use Rattle.lw_base.proofs.Lists.{item_at}

pub loop-number-preserved : goal.loop-number-preserved
loop-number-preserved c =
    let g = c.args.g.now in
    let rules = c.as_slice-rule-items.result.now in
    let n = c.loop-number.number in
    let rule = c.rule-item.result in
    let are = ap (map leaf_of) c.as_slice.ensures.value ∙ c.in_ok-found.ensures in
    let put = subst (λ ls. PutsLeaves g n ls c.loop-number.makers c.put_leaves.new.self) are c.in_ok-put_leaves.ensures in
    record {
      nodes = put.edges_put.nodes ∙ c.loop-number.invariant.nodes;
      puts =
          puts_more rules (λ k rule. LeavesCall g k (leaves rule.body)) (λ k rule. LeavesMake g k (leaves rule.body)) n rule
          (item_at rules n rule c.loop-number-test.true c.rule-item.is) c.loop-number.invariant.puts put;
    }

pub returns : goal.returns
returns c =
    all_makers c.args.g.now c.as_slice-rule-items.result.now c.loop-number.number (record { callers = c.in_ok-new.field-0; starts = c.new-2.result }) c.loop-number.makers
    c.as_slice-rule-items.ensures c.loop-number-test.false c.loop-number.invariant.nodes c.in_ok-new.ensures.empty c.new-2.ensures.items c.loop-number.invariant.puts
