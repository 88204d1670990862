use Rattle.std.proofs.Common.{sym, ◌∙◌, true≢false}
use Rattle.std.proofs.lemmas.Bool.{ltb-true, lt-ltb}
use Rattle.lw_check.proofs.Earlier.{held, as_alike, not_inside, none_alike, earlier_alike, alike_earlier}
use Rattle.lw_check.proofs.duplicates.is_duplicate.Goals as goal

pub returns-in-None : goal.returns-in-None
returns-in-None c type is =
    let out = held c.args.tree.now c.args.n.0 c.args.name.now type is c.node-node.result.now c.node-node.ensures ∙ c.in-None.is in (
      λ no. absurd (true≢false (sym no)),
      λ double. absurd (not_inside c.args.tree.now c.args.n.0 c.args.name.now type is out double),
    )

pub returns-in-None-first_of_type : goal.returns-in-None-first_of_type
returns-in-None-first_of_type c type is =
    let first = as_alike c.args.tree.now c.args.n.0 c.args.name.now type is c.node-node.result.now c.node-node.ensures c.in-Some.container.0 _ _
    c.in-None-first_of_type.is c.first_of_type.ensures in
    let inside = held c.args.tree.now c.args.n.0 c.args.name.now type is c.node-node.result.now c.node-node.ensures ∙ c.in-Some.is in (
      λ no. absurd (true≢false (sym no)),
      λ double. absurd (none_alike c.args.tree.now c.args.n.0 c.args.name.now type is c.in-Some.container.0 inside first double),
    )

pub returns-in-Some-first_of_type : goal.returns-in-Some-first_of_type
returns-in-Some-first_of_type c type is =
    let first = as_alike c.args.tree.now c.args.n.0 c.args.name.now type is c.node-node.result.now c.node-node.ensures c.in-Some.container.0 _ _
    c.in-Some-first_of_type.is c.first_of_type.ensures in
    let inside = held c.args.tree.now c.args.n.0 c.args.name.now type is c.node-node.result.now c.node-node.ensures ∙ c.in-Some.is in
    let least = c.in-Some-first_of_type.first.0 in (
      λ yes. earlier_alike c.args.tree.now c.args.n.0 c.args.name.now type is c.in-Some.container.0 inside least first (ltb-true least c.args.n.0 yes),
      λ double. lt-ltb least c.args.n.0 (alike_earlier c.args.tree.now c.args.n.0 c.args.name.now type is c.in-Some.container.0 inside least first double),
    )
