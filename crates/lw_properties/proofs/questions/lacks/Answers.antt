use Rattle.lw_properties.proofs.Asking.{ruled_out, none_told}
use Rattle.lw_properties.proofs.questions.lacks.Goals as goal

pub returns-then-is_declared : goal.returns-then-is_declared
returns-then-is_declared c =
    let g = c.args.known.now.g.now in
    let told = none_told g c.args.type_name.now c.args.property.now c.attribute.result (c.attribute.ensures g c.requires.attributes) c.is_none.result c.is_none.ensures in
    (λ so. (c.is_declared.ensures.0 c.if-is_declared.true, told.0 so), λ is. told.1 is.1)

pub returns-else-is_declared : goal.returns-else-is_declared
returns-else-is_declared c = (
  λ so. absurd (ruled_out c.is_declared.result c.is_declared.ensures.0 c.is_declared.ensures.1 c.if-is_declared.false (c.is_declared.ensures.0 so)),
  λ is. c.is_declared.ensures.1 is.0,
)
