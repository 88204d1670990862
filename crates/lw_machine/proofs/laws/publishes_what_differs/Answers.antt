-- Where one document is validated, the others are validated before it or after it, in the order of their addresses.
use Rattle.lw_machine.proofs.News.{news}
use Rattle.lw_machine.proofs.laws.publishes_what_differs.Goals as goal

pub returns : goal.returns
returns c = news
