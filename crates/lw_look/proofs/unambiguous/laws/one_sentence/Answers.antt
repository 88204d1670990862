-- The parser comes to its end on each sentence.
use Rattle.lw_look.proofs.Parsed.{same_sentence}
use Rattle.lw_look.proofs.unambiguous.laws.one_sentence.Goals as goal

pub returns : goal.returns
returns c = λ g kinds k m n are apart first second same. same_sentence g kinds k are apart m n first second same
