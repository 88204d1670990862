use Rattle.lw_terminals.proofs.OneAnswer.{one_answer}
use Rattle.lw_terminals.proofs.laws.one_answer.Goals as goal

pub returns : goal.returns
returns c = one_answer
