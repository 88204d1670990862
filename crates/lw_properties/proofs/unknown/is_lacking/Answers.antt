use Rattle.lw_properties.proofs.unknown.is_lacking.Goals as goal

pub returns-then-is_come_to : goal.returns-then-is_come_to
returns-then-is_come_to c = (λ so. (c.is_come_to.ensures.0 c.if-is_come_to.true, c.lacks.ensures.0 so), λ is. c.lacks.ensures.1 is.1)
