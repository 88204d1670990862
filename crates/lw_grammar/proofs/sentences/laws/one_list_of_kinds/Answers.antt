-- Which items are kept is settled.
use Rattle.lw_grammar.proofs.KindLemmas.{one_kinds}
use Rattle.lw_grammar.proofs.sentences.laws.one_list_of_kinds.Goals as goal

pub returns : goal.returns
returns c = one_kinds
