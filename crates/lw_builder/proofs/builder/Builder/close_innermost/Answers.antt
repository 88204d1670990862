use Rattle.std.proofs.Common.{◌++◌, ◌∷◌, [], ap, ◌∙◌}
use Rattle.lw_reading.specs.Follows.{shuts}
use Rattle.lw_builder.proofs.Results.{on_ok}
use Rattle.lw_builder.proofs.ClosingSteps.{node_innermost, node_closed, something_open}
use Rattle.lw_builder.proofs.builder.Builder.close_innermost.Goals as goal

pub shut-requires : goal.shut-requires
shut-requires c =
    let r = c.requires.closing in
    let m = c.in-Some-InNode.ensures in
    let n = node_innermost r.0 c.args.self.now m.0 _ r.1 (m.1 ∙ ap (λ o. m.0 ++ o ∷ []) c.in-Some-InNode.field-0-is) r.2 in
    (r.0, (r.2.brackets, n.0, r.2.over, r.2.stands, shuts n.1))

pub close_value-requires-clause-innermost : goal.close_value-requires-clause-innermost
close_value-requires-clause-innermost c =
    let m = c.in-Some-InValue.ensures in
    (m.0, m.1 ∙ ap (λ o. m.0 ++ o ∷ []) c.in-Some-InValue.field-0-is)

pub unreachable-requires : goal.unreachable-requires
unreachable-requires c =
    let m = c.in-Some-Whole.ensures in
    c.requires.«open» (m.0, m.1 ∙ ap (λ o. m.0 ++ o ∷ []) c.in-Some-Whole.field-0-is)

pub unreachable-requires-in-None : goal.unreachable-requires-in-None
unreachable-requires-in-None c =
    let r = c.requires.closing in
    something_open r.0 c.args.self.now r.1 c.in-None.ensures r.2

pub returns-in-Some-InNode-clause-closing : goal.returns-in-Some-InNode-clause-closing
returns-in-Some-InNode-clause-closing c = λ g x closing.
    let m = c.in-Some-InNode.ensures in
    on_ok c.shut.result _ _
    (node_closed c.shut.result g c.args.self.now c.shut.new.self m.0 _ x (m.1 ∙ ap (λ o. m.0 ++ o ∷ []) c.in-Some-InNode.field-0-is) (c.shut.ensures.shut g)
    c.shut.ensures.reading closing)
    (λ both. both.0)

pub returns-in-Some-InNode-clause-fewer : goal.returns-in-Some-InNode-clause-fewer
returns-in-Some-InNode-clause-fewer c =
    let r = c.requires.closing in
    let m = c.in-Some-InNode.ensures in
    on_ok c.shut.result _ _
    (node_closed c.shut.result r.0 c.args.self.now c.shut.new.self m.0 _ r.1 (m.1 ∙ ap (λ o. m.0 ++ o ∷ []) c.in-Some-InNode.field-0-is) (c.shut.ensures.shut r.0)
    c.shut.ensures.reading r.2)
    (λ both. both.1)
