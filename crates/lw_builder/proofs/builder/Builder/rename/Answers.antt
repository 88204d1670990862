use Rattle.std.proofs.Common.{refl}
use Rattle.lw_builder.proofs.Renaming.{node_taken, put_back}
use Rattle.lw_builder.proofs.builder.Builder.rename.Goals as goal

pub returns-clause-renamed : goal.returns-clause-renamed
returns-clause-renamed c = λ g type from held bs h.
    put_back g c.take_node-node.new.self _ c.take_node-node.result _ type from held bs
    (node_taken g c.args.self.now c.take_node-node.new.self c.take_node-node.result type from held bs
    (record { same = c.take_node-node.ensures.kept; brackets = c.take_node-node.ensures.brackets }) h)
    refl refl refl refl c.in_ok-push.ensures.items refl refl refl
