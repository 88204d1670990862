use Rattle.std.proofs.Common.{false, length}
use Rattle.std.proofs.lemmas.Result.{IfOk-weaker}
use Rattle.lw_properties.specs.Typed.{AreTextTypes, AreTypesOfRules}
use Rattle.lw_properties.proofs.Marking.{texts_told}
use Rattle.lw_properties.proofs.rule_types.text_types.Goals as goal

pub returns : goal.returns
returns c =
    let g = c.args.g.now in
    let nodes = c.args.nodes.now in
    IfOk-weaker c.rule_types.result (λ types. AreTypesOfRules g nodes false (length g.rules) types.items) (λ types. AreTextTypes g types.items)
    (λ types is. texts_told g nodes c.requires.nodes types.items is) c.rule_types.ensures
