use Rattle.std.proofs.Common.{true, ◌∙◌}
use Rattle.std.proofs.lemmas.List.{length-set}
use Rattle.std.proofs.lemmas.List.Elements.{All-push, All-same}
use Rattle.std.proofs.lemmas.Result.{on_ok_weaker}
use Rattle.lw_graph.specs.Order.{IsStepWithin}
use Rattle.lw_graph.proofs.graph.Graph.enter.Goals as goal

pub returns-clause-within : goal.returns-clause-within
returns-clause-within c =
    let nodes = c.args.self.now.nodes in
    let search = c.args.search.now in
    on_ok_weaker c.enter_each.result
    (λ waits. record {
      entered = length-set search.entered.items c.args.node true ∙ c.requires.within.entered;
      waiting = waits;
      left = c.requires.within.left;
    })
    (c.enter_each.ensures nodes c.successors.ensures.within
    (All-same (IsStepWithin nodes) c.push.new.self.items _ c.in_ok-push.ensures.items
    (All-push (IsStepWithin nodes) search.waiting.items _ c.requires.within.waiting c.requires.node)))
