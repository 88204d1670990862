use Rattle.std.proofs.lemmas.List.Elements.{All-push, All-same}
use Rattle.lw_graph.specs.Order.{IsStepWithin}
use Rattle.lw_graph.proofs.order.enter_each.Goals as goal

pub loop-node-preserved : goal.loop-node-preserved
loop-node-preserved c n within waits =
    All-same (IsStepWithin n) c.push.new.self.items _ c.in_ok-push.ensures.items
    (All-push (IsStepWithin n) c.loop-node.waiting.items _ (c.loop-node.invariant n within waits) (within c.loop-node.node-index 0 c.loop-node-test.true))
