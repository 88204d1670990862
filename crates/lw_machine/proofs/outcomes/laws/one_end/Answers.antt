-- At each address the same content is held, which is validated and shown, and the texts that are shown give it one list.
use Rattle.std.specs.FinMap.{entries}
use Rattle.lw_machine.proofs.OneEnd.{one_end, one_news}
use Rattle.lw_machine.proofs.outcomes.laws.one_end.Goals as goal

pub returns : goal.returns
returns c = record { documents = one_end; news = λ m n. one_news m (entries n) }
