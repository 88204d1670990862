-- The first way is the only one at which `a b` comes next.
use Rattle.lw_look.proofs.ParsedRun.{parses}
use Rattle.lw_look.proofs.laws.two_tokens_are_parsed.Goals as goal

pub returns : goal.returns
returns c = parses
