use Rattle.lw_matchers.proofs.CompiledLemmas.{readable}
use Rattle.lw_matchers.proofs.terminal.Terminal.new.Goals as goal

pub returns-clause-readable : goal.returns-clause-readable
returns-clause-readable c = readable c.args.pattern c.args.regex c.requires.compiled
