use Rattle.lw_parse.specs.Running as run
use Rattle.lw_parse.proofs.run.Run.call.Goals as goal

pub returns-in-None : goal.returns-in-None
returns-in-None c = run.no_start c.in-None.ensures
