use Rattle.lw_session.proofs.lifecycle.malformed.Goals as goal

pub returns-in-Some : goal.returns-in-Some
returns-in-Some c = rw c.in-Some.is c.refuse.ensures
