use Rattle.lw_session.proofs.lifecycle.decide.Goals as goal

pub returns-in-Exit : goal.returns-in-Exit
returns-in-Exit c = rw c.in-Exit.is c.ends.ensures
