use Rattle.std.proofs.lemmas.Bool.{false≢true}
use Rattle.lw_properties.proofs.Asking.{told_again, ruled_out, misfits_known}
use Rattle.lw_properties.proofs.questions.misfits.Goals as goal

pub returns-then-not-is_declared : goal.returns-then-not-is_declared
returns-then-not-is_declared c = (
  λ so. absurd (false≢true so),
  λ is. absurd (ruled_out c.is_declared.result c.is_declared.ensures.0 c.is_declared.ensures.1 c.if-not-is_declared.true is.0),
)

pub returns-in-Some : goal.returns-in-Some
returns-in-Some c =
    let g = c.args.known.now.g.now in
    let has = c.in-Some.ensures g c.requires.attributes in
    let declared = c.is_declared.ensures.0 c.if-not-is_declared.false in
    told_again c.misfits_attribute.result c.misfits_attribute.ensures
    (λ is. (declared, c.in-Some.attribute.now, has, is), λ is. misfits_known g c.args.type_name.now c.args.property.now c.args.op c.args.value.now c.in-Some.attribute.now has is)

pub returns-in-None : goal.returns-in-None
returns-in-None c =
    let g = c.args.known.now.g.now in
    (λ so. absurd (false≢true so), λ is. absurd (c.in-None.ensures g c.requires.attributes is.1 is.2))
