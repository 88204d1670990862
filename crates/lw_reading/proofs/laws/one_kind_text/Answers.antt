-- The kinds are settled.
use Rattle.lw_grammar.proofs.KindLemmas.{one_kind_text}
use Rattle.lw_reading.proofs.laws.one_kind_text.Goals as goal

pub returns : goal.returns
returns c = one_kind_text
