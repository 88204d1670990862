use Rattle.std.proofs.Common.{true, length}
use Rattle.std.proofs.lemmas.Result.{IfOk-weaker}
use Rattle.lw_properties.specs.Typed.{AreNodeTypes, AreTypesOfRules}
use Rattle.lw_properties.proofs.Marking.{nodes_told}
use Rattle.lw_properties.proofs.rule_types.node_types.Goals as goal

pub returns : goal.returns
returns c =
    let g = c.args.g.now in
    let nodes = c.args.nodes.now in
    IfOk-weaker c.rule_types.result (λ types. AreTypesOfRules g nodes true (length g.rules) types.items) (λ types. AreNodeTypes g types.items)
    (λ types is. nodes_told g nodes c.requires.nodes types.items is) c.rule_types.ensures
