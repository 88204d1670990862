use Rattle.lw_lang.proofs.JudgeLemmas.{all_placed}
use Rattle.lw_lang.proofs.judging.told.Goals as goal

pub told_faults-requires-clause-placed : goal.told_faults-requires-clause-placed
told_faults-requires-clause-placed c = all_placed c.args.texts.now c.args.g.now c.requires.stand c.requires.root c.args.found.now c.requires.found

pub returns-in-Ok : goal.returns-in-Ok
returns-in-Ok c = record { faults = c.args.found.now; all = c.requires.found; as_told = c.in-Ok.ensures }
