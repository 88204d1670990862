use Rattle.lw_load.proofs.Seen.{seen_cases}
use Rattle.lw_load.proofs.walk.mark.Goals as goal

pub returns-clause-new : goal.returns-clause-new
returns-clause-new c = seen_cases c.args.seen.now.keys c.args.path c.in_ok-insert.field-0 c.in_ok-insert.ensures.added
