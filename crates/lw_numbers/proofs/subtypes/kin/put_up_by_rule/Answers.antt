use Rattle.lw_numbers.proofs.Typing.{typed_up, none_up}
use Rattle.lw_numbers.proofs.subtypes.kin.put_up_by_rule.Goals as goal

pub returns-in-Some : goal.returns-in-Some
returns-in-Some c = λ g. typed_up g c.args.number c.args.rule.now c.if-rule.false c.in-Some.name.now (c.in-Some.ensures g)

pub returns-in-None : goal.returns-in-None
returns-in-None c = λ g. none_up g c.args.number c.args.rule.now c.if-rule.false (c.in-None.ensures g)
