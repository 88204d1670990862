use Rattle.std.proofs.Common.{refl, subst}
use Rattle.lw_reading.specs.Brackets.{grown}
use Rattle.lw_builder.specs.Steps.{IsFinished}
use Rattle.lw_builder.proofs.SameReading.{same_tokens}
use Rattle.lw_builder.proofs.Taking.{has_node}
use Rattle.lw_builder.proofs.Renaming.{node_taken, wrapped}
use Rattle.lw_builder.proofs.builder.Builder.wrap.Goals as goal

pub take_node-node-requires : goal.take_node-node-requires
take_node-node-requires c =
    let s = c.requires.stands in
    has_node s.0 c.args.self.now s.1 s.2 s.3 s.4 s.5

pub finish-requires-clause-ready : goal.finish-requires-clause-ready
finish-requires-clause-ready c =
    let s = c.requires.stands in
    let n = node_taken s.0 c.args.self.now c.take_node-node.new.self c.take_node-node.result s.1 s.2 s.3 s.4
    (record { same = c.take_node-node.ensures.kept; brackets = c.take_node-node.ensures.brackets }) s.5 in
    (s.4, s.3, n.ready)

pub returns-clause-wrapped : goal.returns-clause-wrapped
returns-clause-wrapped c = λ g type from held bs h.
    let n = node_taken g c.args.self.now c.take_node-node.new.self c.take_node-node.result type from held bs
    (record { same = c.take_node-node.ensures.kept; brackets = c.take_node-node.ensures.brackets }) h in
    let node = c.take_node-node.result in
    let d = c.in_ok-own.ensures.finished bs held n.ready in
    let d' = subst (λ ts. IsFinished c.finish.new.self c.in_ok-own.own.0 bs (grown ts node.type_id.0 node.first held))
    (same_tokens c.args.self.now c.take_node-node.new.self c.take_node-node.ensures.reading) d in
    wrapped g c.take_node-node.new.self c.finish.new.self _ node _ c.in_ok-own.own c.args.prop _ type from held bs n d'
    c.in_ok-own.ensures.brackets refl refl c.in_ok-push-2.ensures.items refl c.in_ok-push.ensures.items refl refl refl
