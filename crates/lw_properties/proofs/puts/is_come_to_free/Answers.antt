use Rattle.lw_properties.proofs.puts.is_come_to_free.Goals as goal

pub returns-then-is_come_to : goal.returns-then-is_come_to
returns-then-is_come_to c = (λ so. (c.is_come_to.ensures.0 c.if-is_come_to.true, c.is_free.ensures.0 so), λ is. c.is_free.ensures.1 is.1)
