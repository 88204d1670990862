use Rattle.lw_terminals.proofs.Unlisted.{tokens_unlisted, causes_unlisted}
use Rattle.lw_terminals.proofs.laws.listed_or_not.Goals as goal

pub returns-clause-tokens : goal.returns-clause-tokens
returns-clause-tokens c = tokens_unlisted

pub returns-clause-faults : goal.returns-clause-faults
returns-clause-faults c = causes_unlisted
