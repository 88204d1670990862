use Rattle.lw_flow.proofs.MeantLemmas.{enters_fragment, enters_none}
use Rattle.lw_flow.proofs.walking.entered.Goals as goal

pub returns-in-Fragment : goal.returns-in-Fragment
returns-in-Fragment c _ = enters_fragment c.args.source.now.grammar.now c.args.name.now c.in-Fragment.ensures

pub returns-in-Step : goal.returns-in-Step
returns-in-Step c s = enters_none c.args.source.now.grammar.now c.args.name.now c.in-Step.ensures s
