-- By induction on what is left of the text, and on its cuts.
use Rattle.lw_gramlex.proofs.CutLemmas.{cut_same}
use Rattle.lw_gramlex.proofs.EveryText.{whole_cut}
use Rattle.lw_gramlex.proofs.laws.every_text_has_one_cut.Goals as goal

pub returns : goal.returns
returns c = record { one = whole_cut; only = λ text a b cut other. cut_same text b a other cut }
