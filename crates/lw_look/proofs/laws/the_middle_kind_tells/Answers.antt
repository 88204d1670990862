-- Each way shows a keyword of its own behind the first.
use Rattle.lw_look.proofs.ToldApart.{either_two, either_not_one}
use Rattle.lw_look.proofs.laws.the_middle_kind_tells.Goals as goal

pub returns : goal.returns
returns c = record { two = either_two; not_one = either_not_one }
