-- By induction on the bodies: nothing but `exit` ends a session.
use Rattle.lw_conversation.proofs.Lives.{lives, one_end, some_end}
use Rattle.lw_conversation.proofs.laws.one_end.Goals as goal

pub returns : goal.returns
returns c = record { serves = lives; some = λ phase bodies. some_end bodies phase; one = one_end }
