-- Each leaf stays, or its fragment is put in, or is entered already, and a name means one fragment.
use Rattle.lw_grammar.proofs.LeavesPutIn.{one_leaves}
use Rattle.lw_grammar.proofs.sentences.laws.one_leaves.Goals as goal

pub returns : goal.returns
returns c = one_leaves
